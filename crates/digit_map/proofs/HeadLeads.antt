-- What a token in a head field leads to. Assumes nothing.
use Rattle.std.proofs.Common.{ℕ, ◌+◌, ◌-◌, ◌*◌, ◌≤◌, Bool, ◌&&◌, eqb, List, [], ◌∷◌, ◌++◌, sym, subst, Some, Option}
use Rattle.std.proofs.lemmas.Bool.{cond_both, eqb-true, and_parts}
use Rattle.keypad.specs.declared.timers.Timers.{Timers}
use Rattle.digit_map.specs.declared.sign.Field.{Field}
use Rattle.digit_map.specs.declared.token.Token.{Token}
use Rattle.digit_map.specs.declared.token.Token.TheVariants.{Byte}
use Rattle.digit_map.specs.declared.head.Digits.{Digits}
use Rattle.digit_map.specs.declared.head.Digits.TheVariants.{Letter, Colon, One, Two}
use Rattle.digit_map.specs.declared.head.FieldTurn.{FieldTurn}
use Rattle.digit_map.specs.declared.head.FieldTurn.TheVariants as turned
use Rattle.digit_map.specs.Bytes.{digit}
use Rattle.digit_map.specs.Fields.{rank, fits, field_turn}
use Rattle.digit_map.specs.Limits.{Limits}
use Rattle.digit_map.specs.Turns.{fielded}
use Rattle.digit_map.specs.Grammar.{Begun, colon, one, two, FieldText, short, long, Head, field}
use Rattle.digit_map.specs.Standing.{in_the_head, in_a_field}
use Rattle.digit_map.proofs.Leads.{Leads, regroup}

module _ (L : Limits) {s : List Token} {t : Timers} {k : ℕ} (head : Head s t k) (i : Field)
    (low : k ≤ rank i) (at b : ℕ) (c : Bool) (o : ℕ) where
  abbrev Good : List Token → Option FieldTurn → Type 0
  Good u x = Leads L (s ++ u) (Byte b c o) (fielded t i at x)

  goes_on : (u : List Token) {d : Digits} → Begun (u ++ Byte b c o ∷ []) i at d → Good u (Some (turned.On d))
  goes_on u y = regroup L s u (Byte b c o) (in_a_field head low y) tt

  ends : (u : List Token) {v : ℕ} → FieldText (u ++ Byte b c o ∷ []) i v → Good u (Some (turned.Done v))
  ends u y = regroup L s u (Byte b c o) (in_the_head (field head y low)) tt

  pub field_leads : {u : List Token} {d : Digits} → Begun u i at d → Good u (field_turn i d b)
  field_leads {u = u} {d = Letter} y =
      cond_both (eqb b 58) _ _ (Good u)
      (λ e. goes_on u (subst (λ v. Begun (u ++ Byte v c o ∷ []) i at Colon) (sym (eqb-true b 58 e))
      (colon y c o))) (λ _. tt)
  field_leads {u = u} {d = Colon} y = cond_both (digit b) _ _ (Good u) (λ e. goes_on u (one y b c o e))
      (λ _. tt)
  field_leads {u = u} {d = One d} y =
      cond_both (digit b && fits i (10 * d + (b - 48))) _ _ (Good u)
      (λ e. let h = and_parts (digit b) (fits i (10 * d + (b - 48))) e in
      goes_on u (two y b c o h.0 h.1))
      (λ _. cond_both (eqb b 44 && fits i d) _ _ (Good u)
      (λ e. let h = and_parts (eqb b 44) (fits i d) e in
      ends u (subst (λ v. FieldText (u ++ Byte v c o ∷ []) i d) (sym (eqb-true b 44 h.0))
      (short y h.1 c o)))
      (λ _. tt))
  field_leads {u = u} {d = Two v} y =
      cond_both (eqb b 44) _ _ (Good u)
      (λ e. ends u (subst (λ w. FieldText (u ++ Byte w c o ∷ []) i v) (sym (eqb-true b 44 e)) (long y c o)))
      (λ _. tt)
