-- Whether a key fits the dial string, by the symbol that it would be pressed as. Assumes nothing.
use Rattle.std.proofs.Common.{◌≡◌, ℕ, ◌+◌, ◌≤◌, Bool, true, false, not, leb, Some, None, MatchOption, Option, sym, subst, arith}
use Rattle.std.proofs.lemmas.Bool.{leb-true, leb-false, not-true, not-false}
use Rattle.keypad.specs.declared.key.KeyEvent.{KeyEvent}
use Rattle.keypad.specs.declared.key.Symbol.{Symbol}
use Rattle.keypad.specs.Entries.{Entries}
use Rattle.key_record.specs.Dials.{width, chars}
use Rattle.key_record.specs.Keying.{is_long, Chosen}
use Rattle.key_record.specs.Rules.{Fits}
use Rattle.key_record.specs.States.{State}
use Rattle.key_record.proofs.Singles.{chosen_single}

-- the key k, long or not
module _ (st : State) (a : Entries) (k : KeyEvent) (long : Bool)
    (held : long ≡ is_long st.settings.timers k) where
  meant : (r : Option Symbol) → Chosen a long k.key r → Chosen a (is_long st.settings.timers k) k.key r
  meant r chosen = subst (λ b. Chosen a b k.key r) held chosen

  only : (r : Option Symbol) → Chosen a long k.key r → (y : Symbol)
      → Chosen a (is_long st.settings.timers k) k.key (Some y) → r ≡ Some y
  only r chosen y c = chosen_single a (is_long st.settings.timers k) k.key r (Some y) (meant r chosen) c

  -- it is pressed as r: it fits unless there is such a symbol and that does not fit
  pub fits_unless : {P : Symbol → Type 0} (r : Option Symbol) → Chosen a long k.key r → (b : Bool)
      → MatchOption r (b ≡ false) P
      → ((y : Symbol) → P y → b ≡ not (leb (chars st.dial + width y) 64))
      → elim b as (λ _. Type 0) [ true ↦ (Fits st a k → ⊥) | false ↦ Fits st a k ]
  fits_unless None chosen true h told = absurd (let z : ◌≡◌ {A = ℕ} 0 1 = cc in omega arith)
  fits_unless None chosen false h told = λ y c.
      let some = only None chosen y c in
      let z : ◌≡◌ {A = ℕ} 0 1 = cc in
      absurd (omega arith)
  fits_unless (Some y) chosen true h told = λ fits.
      let within = fits y (meant (Some y) chosen) in
      let past = leb-false (chars st.dial + width y) 64 (not-true _ (sym (told y h))) in
      omega arith
  fits_unless (Some y) chosen false h told = λ z c.
      let other = only (Some y) chosen z c in
      let same : y ≡ z = cc in
      subst (λ v. chars st.dial + width v ≤ 64) same (leb-true _ 64 (not-false _ (sym (told y h))))
