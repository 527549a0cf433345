-- The grammar of maps: which tokens stand for which map. Assumes nothing.
use Rattle.std.specs.Prelude.{◌≡◌, ℕ, ◌+◌, ◌-◌, ◌*◌, ◌^◌, ◌≤◌, Bool, true, false, List, [], ◌∷◌, ◌++◌, bit_or}
use Rattle.keypad.specs.declared.key.Mark.{Mark}
use Rattle.keypad.specs.declared.key.Mark.TheVariants.{Unmarked}
use Rattle.keypad.specs.declared.timers.Timers.{Timers}
use Rattle.keypad.specs.Timing.{standard}
use Rattle.digit_map.specs.declared.sign.Field.{Field}
use Rattle.digit_map.specs.declared.sign.Sign.TheVariants as sign
use Rattle.digit_map.specs.declared.token.Token.{Token}
use Rattle.digit_map.specs.declared.token.Token.TheVariants.{Byte, End}
use Rattle.digit_map.specs.declared.node.Node.{Node}
use Rattle.digit_map.specs.declared.head.Digits.{Digits}
use Rattle.digit_map.specs.declared.head.Digits.TheVariants as digits
use Rattle.digit_map.specs.Bytes.{digit, key_letter_lem, letter_key}
use Rattle.digit_map.specs.Signs.{sign_of}
use Rattle.digit_map.specs.Limits.{Limits}
use Rattle.digit_map.specs.Nodes.{position, awaiting, ending, dot_last_lem, needs_key, count_positions}
use Rattle.digit_map.specs.Sets.{span}
use Rattle.digit_map.specs.Fields.{rank, fits, timed}

-- a field from its letter, which stands at an offset, as far as its colon, its first digit or its second
pub data Begun : List Token → Field → ℕ → Digits → Type 0 where
  letter : (b : ℕ) (c : Bool) (o : ℕ) (i : Field) → sign_of b c ≡ sign.Field i →
      Begun (Byte b c o ∷ []) i o digits.Letter
  colon : {u : List Token} {i : Field} {at : ℕ} → Begun u i at digits.Letter → (c : Bool) (o : ℕ) →
      Begun (u ++ Byte 58 c o ∷ []) i at digits.Colon
  one : {u : List Token} {i : Field} {at : ℕ} → Begun u i at digits.Colon → (b : ℕ) (c : Bool) (o : ℕ) →
      digit b ≡ true →
      Begun (u ++ Byte b c o ∷ []) i at (digits.One (b - 48))
  two : {u : List Token} {i : Field} {at d : ℕ} → Begun u i at (digits.One d) → (b : ℕ) (c : Bool) (o : ℕ) →
      digit b ≡ true →
      fits i (10 * d + (b - 48)) ≡ true → Begun (u ++ Byte b c o ∷ []) i at (digits.Two (10 * d + (b - 48)))

-- a field with its one or two digits and its comma, and its value, which is 0 only in T
pub data FieldText : List Token → Field → ℕ → Type 0 where
  short : {u : List Token} {i : Field} {at d : ℕ} → Begun u i at (digits.One d) → fits i d ≡ true →
      (c : Bool) (o : ℕ) →
      FieldText (u ++ Byte 44 c o ∷ []) i d
  long : {u : List Token} {i : Field} {at v : ℕ} → Begun u i at (digits.Two v) → (c : Bool) (o : ℕ) →
      FieldText (u ++ Byte 44 c o ∷ []) i v

-- fields in their order, each at most once; the timers that they set; and the least field that may follow
pub data Head : List Token → Timers → ℕ → Type 0 where
  none : Head [] standard 0
  field : {s u : List Token} {t : Timers} {k v : ℕ} {i : Field} → Head s t k → FieldText u i v → k ≤ rank i →
      Head (s ++ u) (timed t i v) (rank i + 1)

-- a member of a set: a key, or two digits with a hyphen, the first not above the last; and its keys
pub data Member : List Token → ℕ → Type 0 where
  one_digit : (a : ℕ) (c : Bool) (o : ℕ) → digit a ≡ true → Member (Byte a c o ∷ []) (2 ^ (a - 48))
  one_letter : (a : ℕ) (c : Bool) (o : ℕ) → key_letter_lem a ≡ true → Member (Byte a c o ∷ []) (2 ^ letter_key a)
  range : (a : ℕ) (c : Bool) (o : ℕ) (d : Bool) (p : ℕ) (b : ℕ) (e : Bool) (q : ℕ) →
      digit a ≡ true → digit b ≡ true → a ≤ b →
      Member (Byte a c o ∷ Byte 45 d p ∷ Byte b e q ∷ []) (span (a - 48) (b - 48))

-- members one behind another
pub data Members : List Token → ℕ → Type 0 where
  none : Members [] 0
  more : {s t : List Token} {m n : ℕ} → Members s m → Member t n → Members (s ++ t) (bit_or m n)

-- what a position takes: a key, x, or a set of one or more members
pub data Choice : List Token → ℕ → Type 0 where
  single : (b : ℕ) (c : Bool) (o k : ℕ) → sign_of b c ≡ sign.Keys k → Choice (Byte b c o ∷ []) k
  set : {s t : List Token} {m n : ℕ} (c : Bool) (o : ℕ) → Members s m → Member t n → (d : Bool) (p : ℕ) →
      Choice (Byte 91 c o ∷ ((s ++ t) ++ Byte 93 d p ∷ [])) (bit_or m n)

-- a position with an optional Z before it, which makes its steps long
pub data Placed : List Token → ℕ → Bool → Type 0 where
  plain : {u : List Token} {k : ℕ} → Choice u k → Placed u k false
  long : {u : List Token} {k : ℕ} (b : ℕ) (c : Bool) (o : ℕ) → sign_of b c ≡ sign.Hold → Choice u k →
      Placed (Byte b c o ∷ u) k true

-- the last of some elements
pub data Final : Type 0 where
  nothing : Final
  mark : Final
  place : Final
  dot : Final

abbrev pub is_mark : Final → Bool
is_mark nothing = false
is_mark mark = true
is_mark place = false
is_mark dot = false

-- elements one behind another: their places, the mark in force at their end, and the last of them. A mark is
-- in force from where it stands to the next; a dot belongs to the position before it
pub data Elements : List Token → List Node → Mark → Final → Type 0 where
  none : Elements [] [] Unmarked nothing
  mark_more : {s : List Token} {ns : List Node} {m : Mark} {e : Final} → Elements s ns m e →
      (b : ℕ) (c : Bool) (o : ℕ) (k : Mark) → sign_of b c ≡ sign.Timer k →
      Elements (s ++ Byte b c o ∷ []) ns k mark
  place_more : {s u : List Token} {ns : List Node} {m : Mark} {e : Final} {k : ℕ} {l : Bool} →
      Elements s ns m e → Placed u k l →
      Elements (s ++ u) (ns ++ awaiting (position k l false) m (is_mark e) ∷ []) m place
  dot_more : {s : List Token} {ns : List Node} {m : Mark} → Elements s ns m place → (c : Bool) (o : ℕ) →
      Elements (s ++ Byte 46 c o ∷ []) (dot_last_lem ns) m dot

-- an alternative: elements that need a key; it is held exactly when a mark is the last
pub data Alternative : List Token → List Node → Type 0 where
  elements : {s : List Token} {ns : List Node} {m : Mark} {e : Final} → Elements s ns m e →
      needs_key ns ≡ true →
      Alternative s (ns ++ ending m (is_mark e) ∷ [])

-- what stands before an alternative: a head, and if round brackets are open the alternatives before it, each
-- with its bar; the timers, whether brackets are open, the alternative's number, and the places so far
pub data Front : List Token → Timers → Bool → ℕ → List Node → Type 0 where
  bare : {s : List Token} {t : Timers} {k : ℕ} → Head s t k → Front s t false 1 []
  opened : {s : List Token} {t : Timers} {k : ℕ} → Head s t k → (c : Bool) (o : ℕ) →
      Front (s ++ Byte 40 c o ∷ []) t true 1 []
  barred : {s u : List Token} {t : Timers} {n : ℕ} {ns us : List Node} → Front s t true n ns →
      Alternative u us →
      (c : Bool) (o : ℕ) → Front (s ++ (u ++ Byte 124 c o ∷ [])) t true (n + 1) (ns ++ us)

-- a whole text: its timers, its places, and the number of its alternatives
pub data Whole : List Token → Timers → List Node → ℕ → Type 0 where
  single : {s u : List Token} {t : Timers} {n : ℕ} {ns us : List Node} → Front s t false n ns →
      Alternative u us →
      (o : ℕ) → Whole (s ++ (u ++ End o ∷ [])) t (ns ++ us) n
  several : {s u : List Token} {t : Timers} {n : ℕ} {ns us : List Node} → Front s t true n ns →
      Alternative u us →
      (c : Bool) (o p : ℕ) → Whole (s ++ (u ++ Byte 41 c o ∷ End p ∷ [])) t (ns ++ us) n

-- a whole text within the limits
pub record Admitted (L : Limits) (ts : List Token) (t : Timers) (ns : List Node) : Type 0 where
  pub number : ℕ
  pub whole : Whole ts t ns number
  pub few : number ≤ L.alternatives
  pub fits : count_positions ns ≤ L.positions
