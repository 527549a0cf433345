-- What a draft holds. Assumes nothing.
use Rattle.std.specs.Prelude.{List}
use Rattle.keypad.specs.Rows.{listed}
use Rattle.digit_map.specs.declared.node.Node.{Node}
use Rattle.digit_map.specs.declared.draft.Draft.{Draft}

-- the places read so far, one alternative behind another
abbrev pub drafted : Draft → List Node
drafted d = listed d.nodes
