-- What the live places of a map leave to be dialled. Assumes nothing.
use Rattle.std.specs.Prelude.{◌≡◌, ℕ, ◌+◌, ◌<◌, Bool, true, ◌&&◌, List, length, drop, Some, None, Option}
use Rattle.keypad.specs.declared.key.Symbol.{Symbol}
use Rattle.keypad.specs.Entries.{Entries}
use Rattle.keypad.specs.Sets.{After}
use Rattle.digit_map.specs.declared.node.Node.{Node}
use Rattle.digit_map.specs.Meaning.{Says, MapEntry}
use Rattle.map_plan.specs.declared.places.Places.{Places}
use Rattle.map_plan.specs.Members.{holds}
use Rattle.map_plan.specs.Asking.{takes_symbol, ends, answered, dot_first}

-- behind a live place that has a dot, the next one is live too
abbrev pub Closed : List Node → Places → Type 0
Closed ns live =
    (i : ℕ) → i + 1 < length ns → (holds live i && dot_first (drop i ns)) ≡ true → holds live (i + 1) ≡ true

-- the entries from a live place on
abbrev pub Rest : List Node → Places → Entries
Rest ns live e = (i : ℕ) × (holds live i ≡ true) × Says (drop i ns) e

-- a live place answers with yes
abbrev pub SomeLive : List Node → Places → (Node → Bool) → Type 0
SomeLive ns live p = (i : ℕ) × (holds live i ≡ true) × (answered p (drop i ns) ≡ true)

-- the place i with the node n is passed: a live one by a symbol that it takes, an end before any symbol
abbrev pub passing : Places → Option Symbol → ℕ → Node → Bool
passing live (Some s) i n = holds live i && takes_symbol s n
passing live None i n = ends n

-- what remains of the live places' entries after a symbol; before any, the map's entries
abbrev pub remaining : List Node → Places → Option Symbol → Entries
remaining ns live (Some s) = After (Rest ns live) s
remaining ns live None = MapEntry ns
