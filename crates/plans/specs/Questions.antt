-- What is asked of a set of entries: does some entry of it start so, end, go on, wait so. Assumes nothing.
use Rattle.std.specs.Prelude.{Bool, true, false, ◌⊎◌}
use Rattle.std.proofs.Common.{inl, inr, ⊎_elim}
use Rattle.std.proofs.Math.Logic.{∥∥₁_map}
use Rattle.keypad.specs.declared.key.Symbol.{Symbol}
use Rattle.keypad.specs.declared.key.Mark.{Mark}
use Rattle.keypad.specs.declared.key.Mark.TheVariants.{Unmarked, Short, Long}
use Rattle.keypad.specs.Entries.{Entry, Entries}
use Rattle.keypad.specs.Sets.{Same, Starts, Ended, Settled, GoesOn, Under}
use Rattle.keypad.specs.Answers.{Tells, Pressed, Timing}
use Rattle.keypad.specs.Sets.{Empty}
use Rattle.plans.specs.Pairs.{Either}

-- a question that one entry answers: no entry says no, and more entries say yes again
pub record Question (F : Entries → Type 0) : Type 1 where
  pub none : (a : Entries) → Empty a → F a → ⊥
  pub keeps : (a b : Entries) → ((e : Entry) → a e → b e) → F a → F b
  pub splits : (a b : Entries) → F (Either a b) → F a ⊎ F b

pub starts : (s : Symbol) → Question (λ a. Starts a s)
starts s = record {
  none = λ a n x. n _ x.2;
  keeps = λ a b f x. (x.0, x.1, f _ x.2);
  splits = λ a b x. ⊎_elim (λ y. inl (x.0, x.1, y)) (λ y. inr (x.0, x.1, y)) x.2;
}

pub ends : Question Ended
ends = record {
  none = λ a n x. n _ x.2;
  keeps = λ a b f x. (x.0, x.1, f _ x.2);
  splits = λ a b x. ⊎_elim (λ y. inl (x.0, x.1, y)) (λ y. inr (x.0, x.1, y)) x.2;
}

pub settles : Question Settled
settles = record {
  none = λ a n x. n _ x.1;
  keeps = λ a b f x. (x.0, f _ x.1);
  splits = λ a b x. ⊎_elim (λ y. inl (x.0, y)) (λ y. inr (x.0, y)) x.1;
}

pub goes : Question GoesOn
goes = record {
  none = λ a n x. n _ x.2;
  keeps = λ a b f x. (x.0, x.1, f _ x.2);
  splits = λ a b x. ⊎_elim (λ y. inl (x.0, x.1, y)) (λ y. inr (x.0, x.1, y)) x.2;
}

pub waits : (m : Mark) → Question (λ a. Under a m)
waits m = record {
  none = λ a n. ⊎_elim (λ x. n _ x.2) (λ x. n _ x.1);
  keeps = λ a b f. ⊎_elim (λ x. inl (x.0, x.1, f _ x.2)) (λ x. inr (x.0, f _ x.1));
  splits = λ a b. ⊎_elim
      (λ x. ⊎_elim (λ y. inl (inl (x.0, x.1, y))) (λ y. inr (inl (x.0, x.1, y))) x.2)
      (λ x. ⊎_elim (λ y. inl (inr (x.0, y))) (λ y. inr (inr (x.0, y))) x.1);
}

module _ (F : Entries → Type 0) (q : Question F) where
  -- the same entries give the same answer
  pub tells_same : (a b : Entries) (r : Bool) → Same a b → Tells (F a) r → Tells (F b) r
  tells_same a b true s t = ∥∥₁_map t (q.keeps a b (λ e. (s e).0))
  tells_same a b false s t = λ x. t (q.keeps b a (λ e. (s e).1) x)

-- the same entries wait under the same mark
pub timing_same : (a b : Entries) (m : Mark) → Same a b → Timing a m → Timing b m
timing_same a b Long s t = tells_same (λ x. Under x Long) (waits Long) a b true s t
timing_same a b Short s t = (
  tells_same (λ x. Under x Long) (waits Long) a b false s t.0,
  tells_same (λ x. Under x Short) (waits Short) a b true s t.1,
)
timing_same a b Unmarked s t = (
  tells_same (λ x. Under x Long) (waits Long) a b false s t.0,
  tells_same (λ x. Under x Short) (waits Short) a b false s t.1,
)

-- pressed at the same entries, leaving the same
pub pressed_same : (a b x y : Entries) (s : Symbol) (r : Bool) → Same a b → Same x y → Pressed a s r x
    → Pressed b s r y
pressed_same a b x y s true p q t = (
  tells_same (λ z. Starts z s) (starts s) a b true p t.0,
  λ e. (
    λ v. let w = (t.1 e).0 ((q e).1 v) in (w.0, (p _).0 w.1),
    λ v. (q e).0 ((t.1 e).1 (v.0, (p _).1 v.1)),
  ),
)
pressed_same a b x y s false p q t = (
  tells_same (λ z. Starts z s) (starts s) a b false p t.0,
  λ e. (λ v. (p e).0 ((t.1 e).0 ((q e).1 v)), λ v. (q e).0 ((t.1 e).1 ((p e).1 v))),
)
