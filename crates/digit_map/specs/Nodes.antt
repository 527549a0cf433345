-- The places of alternatives. Assumes nothing.
use Rattle.std.specs.Prelude.{ℕ, ◌+◌, Bool, true, false, not, ◌||◌, List, [], ◌∷◌, Some, None, Option}
use Rattle.keypad.specs.declared.key.Mark.{Mark}
use Rattle.digit_map.specs.declared.node.Position.{Position}
use Rattle.digit_map.specs.declared.node.Node.{Node}

abbrev pub position : ℕ → Bool → Bool → Position
position k l d = record { keys = k; long = l; dotted = d }

-- a place where a position is awaited, under a mark; h says that a mark stands right before it
abbrev pub awaiting : Position → Mark → Bool → Node
awaiting p m h = record { awaits = Some p; mark = m; marked = h }

-- an alternative's end
abbrev pub ending : Mark → Bool → Node
ending m h = record { awaits = None; mark = m; marked = h }

abbrev pub some_position : Option Position → ℕ
some_position (Some p) = 1
some_position None = 0

abbrev pub no_position : Option Position → ℕ
no_position (Some p) = 0
no_position None = 1

abbrev pub count_positions : List Node → ℕ
count_positions [] = 0
count_positions (n ∷ ns) = some_position n.awaits + count_positions ns

abbrev pub count_ends : List Node → ℕ
count_ends [] = 0
count_ends (n ∷ ns) = no_position n.awaits + count_ends ns

abbrev pub with_dot_lem : Option Position → Option Position
with_dot_lem (Some p) = Some (position p.keys p.long true)
with_dot_lem None = None

-- a place with a dot behind its position
abbrev pub dotted_node : Node → Node
dotted_node n = record { awaits = with_dot_lem n.awaits; mark = n.mark; marked = n.marked }

-- the last place gets a dot
abbrev pub dot_last_lem : List Node → List Node
dot_last_lem [] = []
dot_last_lem (n ∷ []) = dotted_node n ∷ []
dot_last_lem (n ∷ m ∷ ns) = n ∷ dot_last_lem (m ∷ ns)

-- whether a position needs a key: one with a dot, and an alternative's end, do not
abbrev pub needed : Option Position → Bool
needed (Some p) = not p.dotted
needed None = false

abbrev pub needs_key : List Node → Bool
needs_key [] = false
needs_key (n ∷ ns) = needed n.awaits || needs_key ns
