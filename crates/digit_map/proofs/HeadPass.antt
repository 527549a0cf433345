-- A head is taken as the grammar has it. Assumes nothing.
use Rattle.std.proofs.Common.{◌≡◌, ℕ, ◌+◌, ◌-◌, ◌*◌, ◌≤◌, true, List, [], refl, ap, ◌∙◌, Some}
use Rattle.std.proofs.lemmas.Bool.{cond-true, le-leb, and_from}
use Rattle.keypad.specs.declared.timers.Timers.{Timers}
use Rattle.digit_map.specs.declared.sign.Field.{Field}
use Rattle.digit_map.specs.declared.token.Token.{Token}
use Rattle.digit_map.specs.declared.token.Token.TheVariants.{Byte}
use Rattle.digit_map.specs.declared.head.Digits.{Digits}
use Rattle.digit_map.specs.declared.head.Digits.TheVariants as digits
use Rattle.digit_map.specs.declared.head.FieldTurn.TheVariants as turned
use Rattle.digit_map.specs.Bytes.{digit}
use Rattle.digit_map.specs.Fields.{rank, fits, timed, field_turn}
use Rattle.digit_map.specs.Limits.{Limits}
use Rattle.digit_map.specs.Turns.{State, on, state, start, in_head, in_field, turn_head, fielded, run}
use Rattle.digit_map.specs.Grammar.{Begun, letter, colon, one, two, FieldText, short, long, Head, none, field}
use Rattle.digit_map.proofs.Runs.{run_on, run_step, run_chain}

one_turn : (i : Field) (b : ℕ) → digit b ≡ true → field_turn i digits.Colon b
    ≡ Some (turned.On (digits.One (b - 48)))
one_turn i b e = cond-true _ _ _ e

two_turn : (i : Field) (d b : ℕ) → digit b ≡ true → fits i (10 * d + (b - 48)) ≡ true →
    field_turn i (digits.One d) b ≡ Some (turned.On (digits.Two (10 * d + (b - 48))))
two_turn i d b e f = cond-true _ _ _ (and_from (digit b) (fits i (10 * d + (b - 48))) e f)

comma_turn : (i : Field) (d : ℕ) → fits i d ≡ true → field_turn i (digits.One d) 44 ≡ Some (turned.Done d)
comma_turn i d e = cond-true _ _ _ e

module _ (L : Limits) (t : Timers) (k : ℕ) where
  abbrev from_head : State
  from_head = state t [] (in_head k)

  abbrev in_the_field : Field → ℕ → Digits → State
  in_the_field i o d = state t [] (in_field i o d)

  pub begun_pass : {u : List Token} {i : Field} {o : ℕ} {d : Digits} → Begun u i o d → k ≤ rank i →
      run L from_head u ≡ on (in_the_field i o d)
  begun_pass (letter b c o i e) h =
      run_on L from_head (in_the_field i o digits.Letter) (Byte b c o) []
      (ap (λ s. turn_head L t k s o) e ∙ cond-true _ _ _ (le-leb k (rank i) h))
  begun_pass (colon {u = u} {i = i} {at = at} x c o) h =
      run_step L u (Byte 58 c o) from_head (in_the_field i at digits.Letter) _ (begun_pass x h) refl
  begun_pass (one {u = u} {i = i} {at = at} x b c o e) h =
      run_step L u (Byte b c o) from_head (in_the_field i at digits.Colon) _ (begun_pass x h)
      (ap (fielded t i at) (one_turn i b e))
  begun_pass (two {u = u} {i = i} {at = at} {d = d} x b c o e f) h =
      run_step L u (Byte b c o) from_head (in_the_field i at (digits.One d)) _ (begun_pass x h)
      (ap (fielded t i at) (two_turn i d b e f))

  pub field_pass : {u : List Token} {i : Field} {v : ℕ} → FieldText u i v → k ≤ rank i →
      run L from_head u ≡ on (state (timed t i v) [] (in_head (rank i + 1)))
  field_pass (short {u = u} {i = i} {at = at} {d = d} x e c o) h =
      run_step L u (Byte 44 c o) from_head (in_the_field i at (digits.One d)) _ (begun_pass x h)
      (ap (fielded t i at) (comma_turn i d e))
  field_pass (long {u = u} {i = i} {at = at} {v = v} x c o) h =
      run_step L u (Byte 44 c o) from_head (in_the_field i at (digits.Two v)) _ (begun_pass x h) refl

pub head_pass : (L : Limits) {s : List Token} {t : Timers} {k : ℕ} → Head s t k →
    run L start s ≡ on (state t [] (in_head k))
head_pass L none = refl
head_pass L (field {s = s} {u = u} {t = t} {k = k} {v = v} {i = i} x y h) =
    run_chain L s u start (state t [] (in_head k)) _ (head_pass L x) (field_pass L t k y h)
