-- The entries of a map's plan. Assumes nothing.
use Rattle.std.specs.Prelude.{Bool, Option}
use Rattle.keypad.specs.declared.key.Symbol.{Symbol}
use Rattle.keypad.specs.Entries.{Entries}
use Rattle.keypad.specs.Sets.{Same}
use Rattle.digit_map.specs.declared.node.Node.{Node}
use Rattle.digit_map.specs.Maps.{places}
use Rattle.digit_map.specs.Meaning.{MapEntry}
use Rattle.map_plan.specs.declared.places.Places.{Places}
use Rattle.map_plan.specs.declared.plan.MapPlan.{MapPlan}
use Rattle.map_plan.specs.Live.{Rest, SomeLive, remaining}

-- the map's entries
abbrev pub whole_of : MapPlan → Entries
whole_of p = MapEntry (places p.map)

-- the entries from a live place on
abbrev pub rest_of : MapPlan → Entries
rest_of p = Rest (places p.map) p.live

-- a live place answers with yes
abbrev pub SomeAnswers : MapPlan → (Node → Bool) → Type 0
SomeAnswers p asks = SomeLive (places p.map) p.live asks

-- the live places leave what remains after a symbol; before any, the map's entries
abbrev pub Leaves : MapPlan → Option Symbol → Places → Type 0
Leaves p o live = Same (Rest (places p.map) live) (remaining (places p.map) p.live o)
