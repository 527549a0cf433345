-- Where a token stands: what the tokens before it are, in the grammar's words. Assumes nothing.
use Rattle.std.specs.Prelude.{◌≡◌, ℕ, ◌+◌, ◌-◌, ◌^◌, ◌<◌, ◌≤◌, Bool, true, false, List, [], ◌∷◌, ◌++◌, bit_or}
use Rattle.keypad.specs.declared.key.Mark.{Mark}
use Rattle.keypad.specs.declared.timers.Timers.{Timers}
use Rattle.digit_map.specs.declared.sign.Field.{Field}
use Rattle.digit_map.specs.declared.sign.Sign.TheVariants as sign
use Rattle.digit_map.specs.declared.token.Token.{Token}
use Rattle.digit_map.specs.declared.token.Token.TheVariants.{Byte}
use Rattle.digit_map.specs.declared.node.Node.{Node}
use Rattle.digit_map.specs.declared.set.Place.{Place}
use Rattle.digit_map.specs.declared.set.Place.TheVariants as place
use Rattle.digit_map.specs.declared.head.Digits.{Digits}
use Rattle.digit_map.specs.declared.progress.Last.{Last}
use Rattle.digit_map.specs.declared.progress.Last.TheVariants as last
use Rattle.digit_map.specs.declared.progress.Progress.{Progress}
use Rattle.digit_map.specs.Bytes.{digit, key_letter_lem, letter_key}
use Rattle.digit_map.specs.Signs.{sign_of}
use Rattle.digit_map.specs.Offsets.{at_of}
use Rattle.digit_map.specs.Nodes.{dot_last_lem, needs_key, count_positions}
use Rattle.digit_map.specs.Sets.{span}
use Rattle.digit_map.specs.Fields.{rank}
use Rattle.digit_map.specs.Limits.{Limits}
use Rattle.digit_map.specs.Acts.{progress}
use Rattle.digit_map.specs.Turns.{Spot, in_head, in_field, in_alternative, in_set, closed, State, state}
use Rattle.digit_map.specs.Turns.{frame}
use Rattle.digit_map.specs.Grammar.{Begun, Head, Members, Elements, Alternative, Front, Final}
use Rattle.digit_map.specs.Grammar.{nothing, mark, place, dot, is_mark}

-- the offset of the first token, or o where there is none
abbrev pub first_or : ℕ → List Token → ℕ
first_or o [] = o
first_or o (x ∷ xs) = at_of x

abbrev pub last_of : Final → Last
last_of nothing = last.Nothing
last_of mark = last.Mark
last_of place = last.Position
last_of dot = last.Dot

-- whether the places need a key, but for a last position that a dot may still follow
abbrev pub needs_before : Final → List Node → Bool
needs_before nothing ns = needs_key ns
needs_before mark ns = needs_key ns
needs_before place ns = needs_key (dot_last_lem ns)
needs_before dot ns = needs_key ns

-- how far an alternative is read behind elements u, and behind a Z more
abbrev pub behind_elements : List Token → List Node → Mark → Final → Progress
behind_elements u ns m e = progress m (is_mark e) (needs_before e ns) (first_or 0 u) (last_of e)

abbrev pub behind_hold : List Token → List Node → Mark → Final → ℕ → Progress
behind_hold u ns m e o = progress m (is_mark e) (needs_key ns) (first_or o u) (last.Hold o)

-- the inside of a set as far as a place of its reader: members, a digit that may begin a range, and a hyphen
pub data Inside : List Token → Place → ℕ → Type 0 where
  start : Inside [] place.Start 0
  letter : {s : List Token} {m : ℕ} → Members s m → (a : ℕ) (c : Bool) (o : ℕ) → key_letter_lem a ≡ true →
      Inside (s ++ Byte a c o ∷ []) place.Member (bit_or m (2 ^ letter_key a))
  digit_more : {s : List Token} {m : ℕ} → Members s m → (a : ℕ) (c : Bool) (o : ℕ) → digit a ≡ true →
      Inside (s ++ Byte a c o ∷ []) (place.Digit (a - 48)) m
  hyphen : {s : List Token} {m : ℕ} → Members s m → (a : ℕ) (c : Bool) (o : ℕ) → digit a ≡ true →
      (d : Bool) (p : ℕ) →
      Inside (s ++ Byte a c o ∷ Byte 45 d p ∷ []) (place.From (a - 48)) m
  range : {s : List Token} {m : ℕ} → Members s m →
      (a : ℕ) (c : Bool) (o : ℕ) (d : Bool) (p : ℕ) (b : ℕ) (e : Bool) (q : ℕ) →
      digit a ≡ true → digit b ≡ true → a ≤ b →
      Inside (s ++ Byte a c o ∷ Byte 45 d p ∷ Byte b e q ∷ []) place.Member (bit_or m (span (a - 48) (b - 48)))

-- elements, or elements and a Z that waits for its position
pub data Read : List Token → List Node → Bool → Progress → Type 0 where
  free : {u : List Token} {ns : List Node} {m : Mark} {e : Final} → Elements u ns m e →
      Read u ns false (behind_elements u ns m e)
  held : {u : List Token} {ns : List Node} {m : Mark} {e : Final} → Elements u ns m e →
      (b : ℕ) (c : Bool) (o : ℕ) →
      sign_of b c ≡ sign.Hold → Read (u ++ Byte b c o ∷ []) ns true (behind_hold u ns m e o)

-- an alternative without brackets is begun
abbrev pub Started : Bool → List Token → Type 0
Started true u = Unit {0}
Started false [] = ⊥
Started false (x ∷ u) = Unit {0}

-- the tokens before a place in the text
pub data Stands : List Token → State → Type 0 where
  in_the_head : {s : List Token} {t : Timers} {k : ℕ} → Head s t k → Stands s (state t [] (in_head k))
  in_a_field : {s u : List Token} {t : Timers} {k o : ℕ} {i : Field} {d : Digits} → Head s t k → k ≤ rank i →
      Begun u i o d →
      Stands (s ++ u) (state t [] (in_field i o d))
  in_an_alternative : {s u : List Token} {t : Timers} {b : Bool} {n : ℕ} {ns us : List Node} {l : Bool}
      {p : Progress} →
      Front s t b n ns → Read u us l p → Started b u →
      Stands (s ++ u) (state t (ns ++ us) (in_alternative (frame b n) p))
  in_a_set : {s u v : List Token} {t : Timers} {b : Bool} {n k : ℕ} {ns us : List Node} {l : Bool}
      {p : Progress} {q : Place} →
      Front s t b n ns → Read u us l p → (c : Bool) (o : ℕ) → Inside v q k →
      Stands (s ++ (u ++ Byte 91 c o ∷ v)) (state t (ns ++ us) (in_set (frame b n) p l o q k))
  behind_bracket : {s u : List Token} {t : Timers} {n : ℕ} {ns us : List Node} → Front s t true n ns →
      Alternative u us →
      (c : Bool) (o : ℕ) → Stands (s ++ (u ++ Byte 41 c o ∷ [])) (state t (ns ++ us) (closed n))

-- the limits are kept: an alternative may be one too many only until it is begun, and a Z has a position to
-- come
abbrev pub InLimits : Limits → ℕ → ℕ → Last → Type 0
InLimits L n count last.Nothing = (n ≤ L.alternatives + 1) × (count ≤ L.positions)
InLimits L n count last.Mark = (n ≤ L.alternatives) × (count ≤ L.positions)
InLimits L n count last.Position = (n ≤ L.alternatives) × (count ≤ L.positions)
InLimits L n count last.Dot = (n ≤ L.alternatives) × (count ≤ L.positions)
InLimits L n count (last.Hold z) = (n ≤ L.alternatives) × (count < L.positions)

abbrev pub Limited : Limits → List Node → Spot → Type 0
Limited L ns (in_head k) = Unit {0}
Limited L ns (in_field i o d) = Unit {0}
Limited L ns (in_alternative f p) = InLimits L f.number (count_positions ns) p.last
Limited L ns (in_set f p l o q k) = (f.number ≤ L.alternatives) × (count_positions ns < L.positions)
Limited L ns (closed n) = (n ≤ L.alternatives) × (count_positions ns ≤ L.positions)

-- what stands before a token where no fault has shown
pub record Standing (L : Limits) (p : List Token) (s : State) : Type 0 where
  pub text : Stands p s
  pub limits : Limited L s.nodes s.spot
