-- The entries of a map. Assumes nothing.
use Rattle.std.specs.Prelude.{◌≡◌, ℕ, ◌<◌, Bool, true, false, List, [], ◌∷◌, ◌++◌, Some, None, Option}
use Rattle.keypad.specs.declared.key.Mark.{Mark}
use Rattle.keypad.specs.declared.key.Symbol.{Symbol}
use Rattle.keypad.specs.declared.key.Symbol.TheVariants.{Plain, Long}
use Rattle.keypad.specs.Entries.{Entry, step, ended, prepend}
use Rattle.digit_map.specs.declared.node.Position.{Position}
use Rattle.digit_map.specs.declared.node.Node.{Node}
use Rattle.digit_map.specs.Nodes.{awaiting, ending}
use Rattle.digit_map.specs.Masks.{has}

-- with Z a key is long
abbrev pub symbol_of_lem : Bool → ℕ → Symbol
symbol_of_lem false k = Plain k
symbol_of_lem true k = Long k

-- a position takes the symbol of one of its keys
pub data Takes (p : Position) : Symbol → Type 0 where
  one_of : (k : ℕ) → k < 16 → has p.keys k ≡ true → Takes p (symbol_of_lem p.long k)

-- an entry from a place of an alternative on: a position without a dot is one step, under the mark in force
-- there; one with a dot is zero or more; the alternative's end closes the entry, held if a mark stands right
-- before it
pub data Says : List Node → Entry → Type 0 where
  closes : (m : Mark) (h : Bool) (ns : List Node) → Says (ending m h ∷ ns) (ended m h)
  takes : (p : Position) (m : Mark) (h : Bool) {ns : List Node} {e : Entry} {s : Symbol} →
      p.dotted ≡ false → Takes p s → Says ns e →
      Says (awaiting p m h ∷ ns) (prepend (step s m) e)
  repeats : (p : Position) (m : Mark) (h : Bool) {ns : List Node} {e : Entry} {s : Symbol} →
      p.dotted ≡ true → Takes p s →
      Says (awaiting p m h ∷ ns) e → Says (awaiting p m h ∷ ns) (prepend (step s m) e)
  skips : (p : Position) (m : Mark) (h : Bool) {ns : List Node} {e : Entry} → p.dotted ≡ true → Says ns e →
      Says (awaiting p m h ∷ ns) e

-- whether an alternative begins behind the places: they are none, or the last is an alternative's end
abbrev pub is_end : Option Position → Bool
is_end (Some p) = false
is_end None = true

abbrev pub whole_alternatives : List Node → Bool
whole_alternatives [] = true
whole_alternatives (n ∷ []) = is_end n.awaits
whole_alternatives (n ∷ m ∷ ns) = whole_alternatives (m ∷ ns)

-- a map's entries are those of all its alternatives
pub record MapEntry (ns : List Node) (e : Entry) : Type 0 where
  pub front : List Node
  pub back : List Node
  pub is : ns ≡ front ++ back
  pub begins : whole_alternatives front ≡ true
  pub says : Says back e

-- every map has an entry, and none without steps
abbrev pub Stepped : Entry → Type 0
Stepped e = (e.steps ≡ []) → ⊥

pub record Meant (ns : List Node) : Type 0 where
  pub some : (e : Entry) × MapEntry ns e
  pub stepped : (e : Entry) → MapEntry ns e → Stepped e
