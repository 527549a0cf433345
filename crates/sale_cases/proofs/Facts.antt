-- What is known of sets of entries: the answers to the questions that a line asks. Assumes nothing.
use Rattle.std.proofs.Common.{Bool, true, false, cond, ◌||◌, ◌⊎◌, List, [], ◌∷◌, ◌++◌, inl, inr}
use mathlib.Core.Logic.{∥∥₁_map}
use Rattle.keypad.specs.declared.key.Mark.{Mark}
use Rattle.keypad.specs.declared.key.Symbol.{Symbol}
use Rattle.keypad.specs.Entries.{Entries}
use Rattle.keypad.specs.Sets.{Starts, Ended, Settled, GoesOn, Under, Remains}
use Rattle.keypad.specs.Answers.{Tells}
use Rattle.key_record.specs.States.{Whether}

pub record Facts : Type 0 where
  pub starts : Symbol → Bool
  pub ended : Bool
  pub settled : Bool
  pub goes_on : Bool
  pub under : Mark → Bool

-- the facts are those of the entries
pub record Knows (a : Entries) (k : Facts) : Type 0 where
  pub starts : (s : Symbol) → Tells (Starts a s) (k.starts s)
  pub ended : Tells (Ended a) k.ended
  pub settled : Tells (Settled a) k.settled
  pub goes_on : Tells (GoesOn a) k.goes_on
  pub under : (m : Mark) → Tells (Under a m) (k.under m)

-- the facts are those of what remains after each dial string
abbrev pub Decides : Entries → (List Symbol → Facts) → Type 0
Decides w m = (d : List Symbol) → Knows (Remains w d) (m d)

-- what remains is decided by the same facts, the symbols pressed put in front
pub decides_behind : (w : Entries) (m : List Symbol → Facts) → Decides w m → (d : List Symbol) →
    Decides (Remains w d) (λ p. m (d ++ p))
decides_behind w m k [] = k
decides_behind w m k (y ∷ d) = decides_behind _ (λ p. m (y ∷ p)) (λ p. k (y ∷ p)) d

-- one of two facts is told
pub tells_or : {P Q R : Type 0} (b c : Bool) → (P → R) → (Q → R) → (R → P ⊎ Q) → Tells P b → Tells Q c →
    Tells R (b || c)
tells_or true c f g s h k = ∥∥₁_map h f
tells_or false true f g s h k = ∥∥₁_map k g
tells_or false false f g s h k = λ r. elim (s r) [ inl p ↦ h p | inr q ↦ k q ]

-- a test that tells of a fact chooses between two values
pub told_cond : {A P : Type 0} (F : A → Type 0) (x y : A) (b : Bool) → Tells P b → (∥ P ∥₁ → F x) →
    ((P → ⊥) → F y) → F (cond b x y)
told_cond F x y true h f g = f h
told_cond F x y false h f g = g h

-- a test of a fact
abbrev pub Tests : Type 0 → Bool → Type 0
Tests P true = P
Tests P false = P → ⊥

pub whether_cond : {F P : Type 0} (X : P → F → Type 0) (Y : F → Type 0) (f g : F) (b : Bool) → Tests P b →
    ((h : P) → X h f) → Y g → Whether P X Y (cond b f g)
whether_cond X Y f g true h x y = inl (h, x h)
whether_cond X Y f g false h x y = inr (h, y)
