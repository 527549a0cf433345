-- What a map holds. Assumes nothing.
use Rattle.std.specs.Prelude.{List}
use Rattle.keypad.specs.declared.timers.Timers.{Timers}
use Rattle.digit_map.specs.declared.node.Node.{Node}
use Rattle.digit_map.specs.declared.map.Map.{Map}
use Rattle.digit_map.specs.Drafts.{drafted}

-- the places of the map's alternatives, one alternative behind another
abbrev pub places : Map → List Node
places m = drafted m.draft

abbrev pub timers_of : Map → Timers
timers_of m = m.draft.timers
