-- The effect of a claim and of its settlement. Assumes nothing.
use Rattle.std.proofs.Common.{◌≡◌, ℕ, ◌≤◌, Bool, true, false, ◌&&◌, eqb, leb, List, length, Some, None, refl, inl, inr, arith}
use Rattle.key_record.specs.declared.call.Numbers.{Numbers}
use Rattle.key_record.specs.declared.ending.Ending.{Ending}
use Rattle.key_record.specs.declared.ending.Phase.{Phase}
use Rattle.key_record.specs.declared.ending.Phase.TheVariants.{Idle, Open, Done, Claimed}
use Rattle.key_record.specs.declared.refusal.Refusal.TheVariants as no
use Rattle.key_record.specs.Letters.{report_line}
use Rattle.key_record.specs.States.{State}
use Rattle.key_record.specs.Effects.{Effect, refuses, claims, settles}
use Rattle.key_record.specs.Rules.{Needs, Claiming, Presents, Booking, Waiving}
use Rattle.sale_cases.proofs.Facts.{Tests}
use Rattle.sale_cases.proofs.Tests.{and_tested, le_tested, eq_tested}
use Rattle.sale_cases.proofs.Rules.{unless}

abbrev pub claiming : Phase → Effect
claiming Idle = refuses no.NotDone
claiming Open = refuses no.NotDone
claiming (Done e) = claims e
claiming (Claimed e) = refuses no.NotDone

-- the receipt is that of the line's report
abbrev pub is_due : State → Numbers → Bool
is_due st r = eqb r.number st.number && eqb r.count st.count

-- a settlement by what it does to a report that is claimed
abbrev pub settling : State → Numbers → Phase → (Ending → Effect) → Effect
settling st r Idle f = refuses no.Receipt
settling st r Open f = refuses no.Receipt
settling st r (Done e) f = refuses no.Receipt
settling st r (Claimed e) f = unless (is_due st r) no.Receipt (f e)

abbrev pub booking : State → ℕ → Ending → Effect
booking st n e = let l = report_line st.dial e in unless (leb (length l) n) no.Memory (settles (Some l))

module _ (st : State) where
  claimed_at : (p : Phase) → st.phase ≡ p → Claiming st (claiming p)
  claimed_at Idle q = inr (λ x. let e = x.1 in let z : ◌≡◌ {A = ℕ} 0 1 = cc in omega arith, refl)
  claimed_at Open q = inr (λ x. let e = x.1 in let z : ◌≡◌ {A = ℕ} 0 1 = cc in omega arith, refl)
  claimed_at (Done e) q = inl ((e, q), refl)
  claimed_at (Claimed e) q = inr (λ x. let e = x.1 in let z : ◌≡◌ {A = ℕ} 0 1 = cc in omega arith, refl)

  pub claimed : Claiming st (claiming st.phase)
  claimed = claimed_at st.phase refl

  module _ (r : Numbers) where
    abbrev Due : Type 0
    Due = (r.number ≡ st.number) × (r.count ≡ st.count)

    due_tested : Tests Due (is_due st r)
    due_tested =
        and_tested (r.number ≡ st.number) (r.count ≡ st.count) _ _
        (eq_tested r.number st.number) (eq_tested r.count st.count)

    -- f settles a report as X has it
    module _ (X : Presents st r → Effect → Type 0) (f : Ending → Effect)
        (due : (x : Presents st r) → X x (f x.0)) where
      settled_by : (e : Ending) → st.phase ≡ Claimed e → (b : Bool) → Tests Due b →
          Needs (Presents st r) no.Receipt X (unless b no.Receipt (f e))
      settled_by e q true d = let x : Presents st r = (e, q, d.0, d.1) in inl (x, due x)
      settled_by e q false d = inr (λ v. d (v.2, v.3), refl)

      settled_at : (p : Phase) → st.phase ≡ p → Needs (Presents st r) no.Receipt X (settling st r p f)
      settled_at Idle q = inr (λ x. let e = x.1 in let z : ◌≡◌ {A = ℕ} 0 1 = cc in omega arith, refl)
      settled_at Open q = inr (λ x. let e = x.1 in let z : ◌≡◌ {A = ℕ} 0 1 = cc in omega arith, refl)
      settled_at (Done e) q = inr (λ x. let e = x.1 in let z : ◌≡◌ {A = ℕ} 0 1 = cc in omega arith, refl)
      settled_at (Claimed e) q = settled_by e q (is_due st r) due_tested

    -- a report line is written into memory of n bytes
    abbrev Writes : ℕ → List ℕ → Effect → Type 0
    Writes n l = Needs (length l ≤ n) no.Memory (λ _ f. f ≡ settles (Some l))

    writes : (n : ℕ) (l : List ℕ) (b : Bool) → Tests (length l ≤ n) b →
        Writes n l (unless b no.Memory (settles (Some l)))
    writes n l true h = inl (h, refl)
    writes n l false h = inr (h, refl)

    pub booked : (n : ℕ) → Booking st r n (settling st r st.phase (booking st n))
    booked n =
        let l : Ending → List ℕ = report_line st.dial in
        settled_at (λ x. Writes n (l x.0)) (booking st n)
        (λ x. writes n (l x.0) _ (le_tested (length (l x.0)) n)) st.phase refl

    pub waived : Waiving st r (settling st r st.phase (λ e. settles None))
    waived = settled_at (λ _ f. f ≡ settles None) (λ e. settles None) (λ x. refl) st.phase refl
