-- A text read without fault so far can be finished: with which bytes. Assumes nothing.
use Rattle.std.proofs.Common.{◌≡◌, ℕ, ◌+◌, ◌-◌, ◌*◌, ◌≤◌, Bool, true, false, cond, leb, List, [], ◌∷◌, ◌++◌, refl, ap, ◌∙◌, arith, Ok, Result}
use Rattle.std.proofs.lemmas.Bool.{cond-true, le-leb, lt-ltb, leb-true, and_from, and_parts}
use Rattle.keypad.specs.declared.timers.Timers.{Timers}
use Rattle.digit_map.specs.declared.fault.Fault.{Fault}
use Rattle.digit_map.specs.declared.sign.Field.{Field}
use Rattle.digit_map.specs.declared.sign.Field.TheVariants as field
use Rattle.digit_map.specs.declared.sign.Sign.TheVariants as sign
use Rattle.digit_map.specs.declared.token.Token.{Token}
use Rattle.digit_map.specs.declared.token.Token.TheVariants.{Byte}
use Rattle.digit_map.specs.declared.node.Node.{Node}
use Rattle.digit_map.specs.declared.node.Position.{Position}
use Rattle.digit_map.specs.declared.set.Place.{Place}
use Rattle.digit_map.specs.declared.set.Place.TheVariants as place
use Rattle.digit_map.specs.declared.head.Digits.{Digits}
use Rattle.digit_map.specs.declared.head.Digits.TheVariants as digits
use Rattle.digit_map.specs.declared.progress.Last.{Last}
use Rattle.digit_map.specs.declared.progress.Last.TheVariants as last
use Rattle.digit_map.specs.declared.progress.Progress.{Progress}
use Rattle.digit_map.specs.declared.progress.Act.{Act}
use Rattle.digit_map.specs.declared.progress.Act.TheVariants.{Put}
use Rattle.digit_map.specs.Bytes.{digit}
use Rattle.digit_map.specs.Tokens.{tokens}
use Rattle.digit_map.specs.Nodes.{count_positions}
use Rattle.digit_map.specs.Fields.{fits}
use Rattle.digit_map.specs.Limits.{Limits, sale}
use Rattle.digit_map.specs.Acts.{onward, if_held, has_room}
use Rattle.digit_map.specs.Turns.{Spot, in_head, in_field, in_alternative, in_set, closed, State, on, done}
use Rattle.digit_map.specs.Turns.{state, frame, acted, fielded, in_set_turned, turn, run}
use Rattle.digit_map.specs.Standing as st
use Rattle.digit_map.specs.Standing.{Inside, Stands, in_the_head, in_a_field, in_an_alternative, in_a_set}
use Rattle.digit_map.specs.Standing.{behind_bracket, InLimits, Limited}
use Rattle.digit_map.proofs.Runs.{run_on}

-- limits with room for one position and one alternative more
abbrev pub ample : Limits
ample = record { positions = 256; alternatives = 65 }

-- a closing round bracket where one is open
abbrev closing : Bool → List ℕ
closing true = 41 ∷ []
closing false = []

-- what is missing of `:55,`, and a key
abbrev field_rest : Digits → List ℕ
field_rest digits.Letter = 58 ∷ 53 ∷ 53 ∷ 44 ∷ 49 ∷ []
field_rest digits.Colon = 53 ∷ 53 ∷ 44 ∷ 49 ∷ []
field_rest (digits.One d) = 53 ∷ 44 ∷ 49 ∷ []
field_rest (digits.Two v) = 44 ∷ 49 ∷ []

-- a member where one is missing, and the closing square bracket
abbrev set_rest : Place → List ℕ → List ℕ
set_rest place.Start more = 49 ∷ 93 ∷ more
set_rest place.Member more = 93 ∷ more
set_rest (place.Digit d) more = 93 ∷ more
set_rest (place.From d) more = 57 ∷ 93 ∷ more

-- the bytes that finish a text
abbrev pub rest_of : Spot → List ℕ
rest_of (in_head k) = 49 ∷ []
rest_of (in_field i o d) = field_rest d
rest_of (in_alternative f p) = 49 ∷ closing f.bracketed
rest_of (in_set f p l o q k) = set_rest q (closing f.bracketed)
rest_of (closed n) = []

-- the tokens are read to the text's end
abbrev pub Finished : State → List Token → Type 0
Finished q ts = (t : Timers) × (ns : List Node) × (run ample q ts ≡ done t ns)

behind_on : (s q : State) (x : Token) (ts : List Token) → turn ample s x ≡ on q → Finished q ts →
    Finished s (x ∷ ts)
behind_on s q x ts e h = (h.0, h.1, run_on ample s q x ts e ∙ h.2)

five_fits : (i : Field) (d : ℕ) → fits i (10 * d + 5) ≡ true
five_fits field.Start d = refl
five_fits field.Short d = lt-ltb 0 (10 * d + 5) (omega arith)
five_fits field.Long d = lt-ltb 0 (10 * d + 5) (omega arith)
five_fits field.Hold d = lt-ltb 0 (10 * d + 5) (omega arith)

-- there is room for a key
roomy : (b : Bool) (n count : ℕ) → n ≤ 65 → count ≤ 255 → has_room ample (frame b n) count ≡ true
roomy b n count h k = and_from _ _ (le-leb n 65 h) (lt-ltb count 256 (omega arith))

room : (b : Bool) (n count : ℕ) (l : Last) → InLimits sale n count l → has_room ample (frame b n) count ≡ true
room b n count last.Nothing h = let k = h.0 in roomy b n count (omega arith) h.1
room b n count last.Mark h = let k = h.0 in roomy b n count (omega arith) h.1
room b n count last.Position h = let k = h.0 in roomy b n count (omega arith) h.1
room b n count last.Dot h = let k = h.0 in roomy b n count (omega arith) h.1
room b n count (last.Hold z) h = let k = h.0 in let j = h.1 in roomy b n count (omega arith) (omega arith)

-- a key is put
puts : (r : Bool) (l : Last) (x y : Position) (p : Progress) (a : Result Act Fault) → r ≡ true →
    (z : Position) × (if_held l (Ok (Put x p)) (cond r (Ok (Put y p)) a) ≡ Ok (Put z p))
puts r last.Nothing x y p a e = (y, cond-true _ _ _ e)
puts r last.Mark x y p a e = (y, cond-true _ _ _ e)
puts r last.Position x y p a e = (y, cond-true _ _ _ e)
puts r last.Dot x y p a e = (y, cond-true _ _ _ e)
puts r (last.Hold z) x y p a e = (x, refl)

below_ten : (a : ℕ) → digit a ≡ true → a - 48 ≤ 9
below_ten a e = let h = leb-true a 57 (and_parts (leb 48 a) (leb a 57) e).1 in omega arith

module _ (t : Timers) where
  -- behind a field's first digit
  digit_finished : (i : Field) (at d : ℕ) (j : Bool) (o : ℕ) →
      Finished (state t [] (in_field i at (digits.One d))) (tokens j o (53 ∷ 44 ∷ 49 ∷ []))
  digit_finished i at d j o =
      behind_on (state t [] (in_field i at (digits.One d)))
      (state t [] (in_field i at (digits.Two (10 * d + 5)))) (Byte 53 false o)
      (tokens false (o + 1) (44 ∷ 49 ∷ []))
      (ap (fielded t i at) (cond-true _ _ _ (five_fits i d))) (_, _, refl)

  field_finished : (i : Field) (at : ℕ) (d : Digits) (j : Bool) (o : ℕ) →
      Finished (state t [] (in_field i at d)) (tokens j o (field_rest d))
  field_finished i at digits.Letter j o = digit_finished i at 5 false (o + 1 + 1)
  field_finished i at digits.Colon j o = digit_finished i at 5 false (o + 1)
  field_finished i at (digits.One d) j o = digit_finished i at d j o
  field_finished i at (digits.Two v) j o = (_, _, refl)

  module _ (n : ℕ) where
    -- behind a position an alternative may end
    closes : (b : Bool) (ns : List Node) (p : Progress) (o at : ℕ) (j : Bool) →
        Finished (state t ns (in_alternative (frame b n) (onward p at p.mark false last.Position)))
        (tokens j o (closing b))
    closes true ns p o at j = (_, _, refl)
    closes false ns p o at j = (_, _, refl)

    alternative_finished : (b : Bool) (ns : List Node) (p : Progress) →
        InLimits sale n (count_positions ns) p.last → (j : Bool) (o : ℕ) →
        Finished (state t ns (in_alternative (frame b n) p)) (tokens j o (49 ∷ closing b))
    alternative_finished b ns p h j o =
        let w =
        puts (has_room ample (frame b n) (count_positions ns)) p.last _ _
        (onward p o p.mark false last.Position) _
        (room b n (count_positions ns) p.last h) in
        behind_on (state t ns (in_alternative (frame b n) p)) _ (Byte 49 false o)
        (tokens false (o + 1) (closing b))
        (ap (acted t ns (frame b n) p (sign.Keys 2) o) w.1)
        (closes b _ p (o + 1) o false)

    module _ (b : Bool) (ns : List Node) (p : Progress) (l : Bool) (at : ℕ) where
      set_finished : {v : List Token} {q : Place} {k : ℕ} → Inside v q k → (j : Bool) (o : ℕ) →
          Finished (state t ns (in_set (frame b n) p l at q k)) (tokens j o (set_rest q (closing b)))
      set_finished st.start j o = closes b _ p (o + 1 + 1) at true
      set_finished (st.letter ms a c w e) j o = closes b _ p (o + 1) at true
      set_finished (st.digit_more ms a c w e) j o = closes b _ p (o + 1) at true
      set_finished (st.hyphen {m = m} ms a c w e d i) j o =
          behind_on (state t ns (in_set (frame b n) p l at (place.From (a - 48)) m)) _ (Byte 57 false o)
          (tokens false (o + 1) (93 ∷ closing b))
          (ap (in_set_turned t ns (frame b n) p l at) (cond-true _ _ _ (le-leb (a - 48) 9 (below_ten a e))))
          (closes b _ p (o + 1 + 1) at true)
      set_finished (st.range ms a c w d i y e z f g h) j o = closes b _ p (o + 1) at true

-- where no fault has shown the text can be finished
pub finished : {p : List Token} {q : State} → Stands p q → Limited sale q.nodes q.spot →
    (j : Bool) (o : ℕ) → Finished q (tokens j o (rest_of q.spot))
finished (in_the_head x) h j o = (_, _, refl)
finished (in_a_field {t = t} {o = at} {i = i} {d = d} x le y) h j o = field_finished t i at d j o
finished (in_an_alternative {t = t} {b = b} {n = n} {ns = ns} {us = us} {p = p} x y w) h j o =
    alternative_finished t n b (ns ++ us) p h j o
finished (in_a_set {t = t} {b = b} {n = n} {ns = ns} {us = us} {l = l} {p = p} x y c at z) h j o =
    set_finished t n b (ns ++ us) p l at z j o
finished (behind_bracket x y c at) h j o = (_, _, refl)
