-- What a place answers. Assumes nothing.
use Rattle.std.specs.Prelude.{◌≡◌, ℕ, Bool, true, false, not, ◌&&◌, List, [], ◌∷◌, Some, None, Option, nat_lt}
use Rattle.keypad.specs.declared.key.Symbol.{Symbol}
use Rattle.keypad.specs.declared.key.Symbol.TheVariants as symbol
use Rattle.keypad.specs.declared.key.Mark.{Mark}
use Rattle.keypad.specs.declared.key.Mark.TheVariants.{Unmarked, Short, Long}
use Rattle.digit_map.specs.declared.node.Position.{Position}
use Rattle.digit_map.specs.declared.node.Node.{Node}
use Rattle.digit_map.specs.Masks.{has}
use Rattle.digit_map.specs.Meaning.{is_end}

-- k is a key, and among the keys m
abbrev pub in_keys : ℕ → ℕ → Bool
in_keys m k = nat_lt k 16 && has m k

-- the symbol is one of the position's
abbrev pub accepts : Position → Symbol → Bool
accepts p (symbol.Plain k) = not p.long && in_keys p.keys k
accepts p (symbol.Long k) = p.long && in_keys p.keys k

abbrev pub accepts_at : Symbol → Option Position → Bool
accepts_at s (Some p) = accepts p s
accepts_at s None = false

abbrev pub same_mark : Mark → Mark → Bool
same_mark Unmarked Unmarked = true
same_mark Unmarked Short = false
same_mark Unmarked Long = false
same_mark Short Unmarked = false
same_mark Short Short = true
same_mark Short Long = false
same_mark Long Unmarked = false
same_mark Long Short = false
same_mark Long Long = true

-- what is asked of a place: whether it takes a symbol, is an alternative's end, is an end that is not held,
-- awaits a position, or awaits its position or its end under a mark
abbrev pub takes_symbol : Symbol → Node → Bool
takes_symbol s n = accepts_at s n.awaits

abbrev pub ends : Node → Bool
ends n = is_end n.awaits

abbrev pub settles : Node → Bool
settles n = is_end n.awaits && not n.marked

abbrev pub awaits : Node → Bool
awaits n = not (is_end n.awaits)

abbrev pub under : Mark → Node → Bool
under m n = same_mark m n.mark

-- the answers are those of the test
abbrev pub Asks : (Node → Bool → Type 0) → (Node → Bool) → Type 0
Asks says p = (n : Node) (r : Bool) → says n r → r ≡ p n

-- the first of the places answers with yes
abbrev pub answered : (Node → Bool) → List Node → Bool
answered p [] = false
answered p (n ∷ ns) = p n

-- what is awaited has a dot
abbrev pub has_dot : Option Position → Bool
has_dot (Some p) = p.dotted
has_dot None = false

abbrev pub dot_first : List Node → Bool
dot_first [] = false
dot_first (n ∷ ns) = has_dot n.awaits
