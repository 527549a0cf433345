-- What is told of a set of entries is told of the same entries. Assumes nothing.
use mathlib.Core.Path.{◌≡◌, refl}
use mathlib.Core.List.{List, [], ◌∷◌, ◌++◌}
use mathlib.Core.Logic.{inl, inr, ∥∥₁_elim, ∥∥₁_map}
use mathlib.Core.HLevel.{⊥_prop}
use Rattle.keypad.specs.declared.key.Symbol.{Symbol}
use Rattle.keypad.specs.declared.key.Mark.{Mark}
use Rattle.keypad.specs.declared.key.Mark.TheVariants.{Unmarked, Short, Long}
use Rattle.keypad.specs.Entries.{Entries}
use Rattle.keypad.specs.Sets.{Same, Starts, After, Remains, Ended, Settled, GoesOn, Under}
use Rattle.keypad.specs.Answers.{Timing}

pub same_refl : (a : Entries) → Same a a
same_refl a e = (λ x. x, λ x. x)

pub flip : (a b : Entries) → Same a b → Same b a
flip a b h e = ((h e).1, (h e).0)

pub same_trans : (a b c : Entries) → Same a b → Same b c → Same a c
same_trans a b c g h e = (λ x. (h e).0 ((g e).0 x), λ x. (g e).1 ((h e).1 x))

pub after_same : (a b : Entries) (s : Symbol) → Same a b → Same (After a s) (After b s)
after_same a b s h e = (λ x. (x.0, (h _).0 x.1), λ x. (x.0, (h _).1 x.1))

pub remains_same : (a b : Entries) (d : List Symbol) → Same a b → Same (Remains a d) (Remains b d)
remains_same a b [] h = h
remains_same a b (s ∷ d) h = remains_same (After a s) (After b s) d (after_same a b s h)

pub remains-++ : (w : Entries) (d e : List Symbol) → Remains w (d ++ e) ≡ Remains (Remains w d) e
remains-++ w [] e = refl
remains-++ w (s ∷ d) e = remains-++ (After w s) d e

pub starts_same : (a b : Entries) (s : Symbol) → Same a b → Starts a s → Starts b s
starts_same a b s h x = (x.0, x.1, (h _).0 x.2)

pub ended_same : (a b : Entries) → Same a b → Ended a → Ended b
ended_same a b h x = (x.0, x.1, (h _).0 x.2)

pub settled_same : (a b : Entries) → Same a b → Settled a → Settled b
settled_same a b h x = (x.0, (h _).0 x.1)

pub goes_on_same : (a b : Entries) → Same a b → GoesOn a → GoesOn b
goes_on_same a b h x = (x.0, x.1, (h _).0 x.2)

pub under_same : (a b : Entries) (m : Mark) → Same a b → Under a m → Under b m
under_same a b m h (inl x) = inl (x.0, x.1, (h _).0 x.2)
under_same a b m h (inr x) = inr (x.0, (h _).0 x.1)

-- a fact that holds and does not hold
pub clash {ℓ} : {A : Type 0} {R : Type ℓ} → ∥ A ∥₁ → (A → ⊥) → R
clash t f = absurd (∥∥₁_elim t ⊥_prop f)

pub timing_same : (a b : Entries) (m : Mark) → Same a b → Timing a m → Timing b m
timing_same a b Long h t = ∥∥₁_map t (under_same a b Long h)
timing_same a b Short h t = (
  λ x. t.0 (under_same b a Long (flip a b h) x),
  ∥∥₁_map t.1 (under_same a b Short h),
)
timing_same a b Unmarked h t = (
  λ x. t.0 (under_same b a Long (flip a b h) x),
  λ x. t.1 (under_same b a Short (flip a b h) x),
)

-- over one set of entries there is one timing
pub timing_single : (a : Entries) (m n : Mark) → Timing a m → Timing a n → m ≡ n
timing_single a Unmarked Unmarked x y = refl
timing_single a Unmarked Short x y = clash y.1 x.1
timing_single a Unmarked Long x y = clash y x.0
timing_single a Short Unmarked x y = clash x.1 y.1
timing_single a Short Short x y = refl
timing_single a Short Long x y = clash y x.0
timing_single a Long Unmarked x y = clash x y.0
timing_single a Long Short x y = clash x y.0
timing_single a Long Long x y = refl

pub timing_unique : (a b : Entries) → Same a b → (m n : Mark) → Timing a m → Timing b n → m ≡ n
timing_unique a b h m n x y = timing_single b m n (timing_same a b m h x) y
