-- What a key is pressed as, and how a press or an unmatched key is judged, by facts. Assumes nothing.
use Rattle.std.proofs.Common.{ℕ, zero, suc, ◌<◌, Bool, true, false, cond, ◌||◌, ◌⊎◌, Some, None, Option, refl, subst, inl, inr, ⊎_elim, arith}
use mathlib.Core.Logic.{∥∥₁_map}
use Rattle.std.proofs.lemmas.Bool.{cases_eq}
use Rattle.keypad.specs.declared.key.Symbol.{Symbol}
use Rattle.keypad.specs.declared.key.Symbol.TheVariants.{Plain, Long}
use Rattle.keypad.specs.Entries.{Entries}
use Rattle.keypad.specs.Sets.{Starts}
use Rattle.keypad.specs.Answers.{Tells}
use Rattle.keypad.proofs.Sames.{clash}
use Rattle.key_record.specs.declared.ending.Method.{Method}
use Rattle.key_record.specs.declared.ending.Method.TheVariants.{Unambiguous, Full, Partial}
use Rattle.key_record.specs.declared.settings.Procedure.{Procedure}
use Rattle.key_record.specs.declared.settings.Procedure.TheVariants.{Base, Shortest}
use Rattle.key_record.specs.Keying.{Chosen, Extra, Judged, Falls, Missed}
use Rattle.sale_cases.proofs.Facts.{Facts, Knows, tells_or, told_cond}

-- some long symbol below n is open
abbrev pub long_below : Facts → ℕ → Bool
long_below k zero = false
long_below k (suc n) = k.starts (Long n) || long_below k n

abbrev pub plain_choice : Facts → ℕ → Option Symbol
plain_choice k n = cond (k.starts (Plain n)) (Some (Plain n)) None

abbrev pub choice : Facts → Bool → ℕ → Option Symbol
choice k true n = cond (k.starts (Long n)) (Some (Long n)) (plain_choice k n)
choice k false n = plain_choice k n

abbrev pub extra : Facts → Bool → ℕ → Symbol
extra k true n = cond (long_below k 16) (Long n) (Plain n)
extra k false n = Plain n

abbrev pub judge : Procedure → Facts → Option Method
judge Base k = cond k.ended (cond k.goes_on None (Some Unambiguous)) None
judge Shortest k = cond k.settled (Some Full) None

abbrev pub falling : Facts → Method
falling k = cond k.ended Full Partial

abbrev pub missing : Procedure → Facts → Method
missing Base k = falling k
missing Shortest k = Partial

module _ (a : Entries) (k : Facts) (h : Knows a k) where
  abbrev LongBelow : ℕ → Type 0
  LongBelow n = (j : ℕ) × (j < n) × Starts a (Long j)

  below_split : (n j : ℕ) → j < suc n → Starts a (Long j) → Starts a (Long n) ⊎ LongBelow n
  below_split n j l x =
      ⊎_elim (λ e. inl (subst (λ v. Starts a (Long v)) e x)) (λ e. inr (j, omega arith, x)) (cases_eq j n)

  long_below_told : (n : ℕ) → Tells (LongBelow n) (long_below k n)
  long_below_told zero = λ x. let l = x.1 in omega arith
  long_below_told (suc n) =
      tells_or (k.starts (Long n)) (long_below k n) (λ x. (n, omega arith, x))
      (λ x. (x.0, let l = x.1 in omega arith, x.2)) (λ x. below_split n x.0 x.1 x.2)
      (h.starts (Long n)) (long_below_told n)

  plain_chosen : (F : Option Symbol → Type 0) (n : ℕ) → (∥ Starts a (Plain n) ∥₁ → F (Some (Plain n))) →
      ((Starts a (Plain n) → ⊥) → F None) → F (plain_choice k n)
  plain_chosen F n f g = told_cond F _ _ (k.starts (Plain n)) (h.starts (Plain n)) f g

  long_chosen : (F : Option Symbol → Type 0) (n : ℕ) → (∥ Starts a (Long n) ∥₁ → F (Some (Long n))) →
      ((Starts a (Long n) → ⊥) → F (plain_choice k n)) → F (choice k true n)
  long_chosen F n f g = told_cond F _ _ (k.starts (Long n)) (h.starts (Long n)) f g

  pub chosen : (b : Bool) (n : ℕ) → Chosen a b n (choice k b n)
  chosen true n = long_chosen (Chosen a true n) n (λ y. (refl, y))
      (λ x. plain_chosen (Chosen a true n) n (λ y. (refl, x, y)) (λ y. (x, y)))
  chosen false n = plain_chosen (Chosen a false n) n (λ y. (refl, y)) (λ y. y)

  pub unmatched_as : (b : Bool) (n : ℕ) → Extra a b n (extra k b n)
  unmatched_as true n =
      told_cond (Extra a true n) _ _ (long_below k 16) (long_below_told 16)
      (λ x. (refl, ∥∥₁_map x (λ y. (y.0, let l = y.1 in omega arith, y.2))))
      (λ x. (refl, λ y. x (y.0, let l = y.1 in omega arith, y.2)))
  unmatched_as false n = refl

  pub judged : (p : Procedure) → Judged p a (judge p k)
  judged Base = told_cond (Judged Base a) _ _ k.ended h.ended
      (λ x. told_cond (Judged Base a) _ _ k.goes_on h.goes_on (λ y e no. clash y no)
      (λ y. (refl, x, y)))
      (λ x e no. x e)
  judged Shortest = told_cond (Judged Shortest a) _ _ k.settled h.settled (λ x. (refl, x)) (λ x. x)

  pub falls : Falls a (falling k)
  falls = told_cond (Falls a) _ _ k.ended h.ended (λ x. x) (λ x. x)

  pub missed : (p : Procedure) → Missed p a (missing p k)
  missed Base = falls
  missed Shortest = refl
