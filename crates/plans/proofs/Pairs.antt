-- What two sets of entries tell side by side. Assumes nothing.
use Rattle.std.proofs.Common.{◌≡◌, Bool, true, false, ◌⊎◌, sym, subst, inl, inr, ⊎_elim}
use mathlib.Core.Logic.{⊎_map, ∥∥₁_map, ∥∥₁_elim}
use mathlib.Core.HLevel.{⊥_prop}
use Rattle.keypad.specs.declared.key.Symbol.{Symbol}
use Rattle.keypad.specs.declared.key.Mark.{Mark}
use Rattle.keypad.specs.declared.key.Mark.TheVariants.{Unmarked, Short, Long}
use Rattle.keypad.specs.Entries.{Entries}
use Rattle.keypad.specs.Sets.{Same, Starts, After, Under}
use Rattle.keypad.specs.Answers.{Tells, Pressed, Timing}
use Rattle.plans.specs.Pairs.{Either, Live, longer}
use Rattle.plans.specs.Questions.{Question, starts, waits}

module _ (F : Entries → Type 0) (q : Question F) where
  -- where the one says yes, both together do
  pub tells_first : (a b : Entries) (r : Bool) → r ≡ true → Tells (F a) r → Tells (F (Either a b)) r
  tells_first a b true e t = ∥∥₁_map t (q.keeps a (Either a b) (λ e. inl))
  tells_first a b false e t = subst (Tells (F (Either a b))) (sym e)
      (∥∥₁_map (subst (Tells (F a)) e t) (q.keeps a (Either a b) (λ e. inl)))

  -- where the one says no, the other tells for both
  pub tells_second : (a b : Entries) (r s : Bool) → r ≡ false → Tells (F a) r → Tells (F b) s
      → Tells (F (Either a b)) s
  tells_second a b r true e t u = ∥∥₁_map u (q.keeps b (Either a b) (λ e. inr))
  tells_second a b r false e t u = λ x. ⊎_elim (subst (Tells (F a)) e t) u (q.splits a b x)

-- the same on both sides is the same side by side
pub either_same : (a b x y : Entries) → Same a x → Same b y → Same (Either a b) (Either x y)
either_same a b x y p q e = (⊎_map (p e).0 (q e).0, ⊎_map (p e).1 (q e).1)

-- what remains of both together is what remains of each
pub either_after : (a b x y : Entries) (s : Symbol) → Same x (After a s) → Same y (After b s)
    → Same (Either x y) (After (Either a b) s)
either_after a b x y s p q e = (
  ⊎_elim (λ u. let v = (p e).0 u in (v.0, inl v.1)) (λ u. let v = (q e).0 u in (v.0, inr v.1)),
  λ v. ⊎_elim (λ u. inl ((p e).1 (v.0, u))) (λ u. inr ((q e).1 (v.0, u))) v.1,
)

-- a set that took the symbol is in with what remains, any other is out
live_after_lem : (a x : Entries) (s : Symbol) (i r : Bool) → Pressed a s r (Live i x)
    → Same (Live r x) (After a s)
live_after_lem a x s true true p = p.1
live_after_lem a x s false true p = absurd (∥∥₁_elim p.0 ⊥_prop (λ u. (p.1 u.1).1 (u.0, u.2)))
live_after_lem a x s i false p = λ e. (λ n. absurd n, λ v. absurd (p.0 (v.0, e, v.1)))

pressed_tells : (a x : Entries) (s : Symbol) (r : Bool) → Pressed a s r x → Tells (Starts a s) r
pressed_tells a x s true p = p.0
pressed_tells a x s false p = p.0

-- one of the two at least took the symbol
pub pressed_some : (a b x y : Entries) (s : Symbol) (i j r t : Bool) → (r ≡ true) ⊎ (t ≡ true)
    → Pressed a s r (Live i x) → Pressed b s t (Live j y)
    → Pressed (Either a b) s true (Either (Live r x) (Live t y))
pressed_some a b x y s i j r t h p q = (
  ⊎_elim
      (λ e. ∥∥₁_map (subst (Tells (Starts a s)) e (pressed_tells a (Live i x) s r p))
      ((starts s).keeps a (Either a b) (λ _. inl)))
      (λ e. ∥∥₁_map (subst (Tells (Starts b s)) e (pressed_tells b (Live j y) s t q))
      ((starts s).keeps b (Either a b) (λ _. inr)))
      h,
  either_after a b (Live r x) (Live t y) s (live_after_lem a x s i r p) (live_after_lem b y s j t q),
)

module _ (a b : Entries) where
  no : (m : Mark) → (Under a m → ⊥) → (Under b m → ⊥) → Under (Either a b) m → ⊥
  no m p q x = ⊎_elim p q ((waits m).splits a b x)

  first : (m : Mark) → ∥ Under a m ∥₁ → ∥ Under (Either a b) m ∥₁
  first m t = ∥∥₁_map t ((waits m).keeps a (Either a b) (λ _. inl))

  second : (m : Mark) → ∥ Under b m ∥₁ → ∥ Under (Either a b) m ∥₁
  second m t = ∥∥₁_map t ((waits m).keeps b (Either a b) (λ _. inr))

  by_marks : (m n : Mark) → Timing a m → Timing b n → Timing (Either a b) (longer m n)
  by_marks Long n p q = first Long p
  by_marks Short Long p q = second Long q
  by_marks Short Short p q = (no Long p.0 q.0, first Short p.1)
  by_marks Short Unmarked p q = (no Long p.0 q.0, first Short p.1)
  by_marks Unmarked Long p q = second Long q
  by_marks Unmarked Short p q = (no Long p.0 q.0, second Short q.1)
  by_marks Unmarked Unmarked p q = (no Long p.0 q.0, no Short p.1 q.1)

  -- both together wait under the longer of their marks
  pub timing_longer : (m n k : Mark) → k ≡ longer m n → Timing a m → Timing b n → Timing (Either a b) k
  timing_longer m n k e p q = subst (Timing (Either a b)) (sym e) (by_marks m n p q)
