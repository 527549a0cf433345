-- What a key does to a set of entries, and the timer that runs, move to the same entries. Assumes nothing.
use Rattle.std.proofs.Common.{◌≡◌, ℕ, Bool, true, false, Some, None, Option, inl, inr}
use mathlib.Core.Logic.{∥∥₁_map}
use Rattle.keypad.specs.declared.key.Mark.{Mark}
use Rattle.keypad.specs.declared.key.Mark.TheVariants as mark
use Rattle.keypad.specs.declared.key.Symbol.{Symbol}
use Rattle.keypad.specs.declared.key.Symbol.TheVariants.{Plain, Long}
use Rattle.keypad.specs.declared.timers.Timers.{Timers}
use Rattle.keypad.specs.Entries.{Entries}
use Rattle.keypad.specs.Sets.{Same}
use Rattle.keypad.proofs.Sames.{flip, starts_same, ended_same, settled_same, goes_on_same, timing_same}
use Rattle.key_record.specs.declared.ending.Method.{Method}
use Rattle.key_record.specs.declared.ending.Method.TheVariants.{Unambiguous, Full, Partial}
use Rattle.key_record.specs.declared.ending.Phase.TheVariants.{Open}
use Rattle.key_record.specs.declared.settings.Procedure.{Procedure}
use Rattle.key_record.specs.declared.settings.Procedure.TheVariants.{Base, Shortest}
use Rattle.key_record.specs.declared.timer.Timer.{Timer}
use Rattle.key_record.specs.Keying.{Chosen, AnyLong, Extra, Judged, Falls, Missed, Later, Awaits}
use Rattle.key_record.specs.Dials.{fresh}
use Rattle.key_record.specs.States.{State, Running}
use Rattle.key_record.proofs.Singles.{chosen_single, extra_single, judged_single, falls_single, missed_single, awaits_single, running_single}

any_long_same : (a b : Entries) → Same a b → AnyLong a → AnyLong b
any_long_same a b h x = (x.0, x.1, starts_same a b (Long x.0) h x.2)

-- each moves to the same entries

module _ (a b : Entries) (h : Same a b) where
  pub chosen_same : (l : Bool) (k : ℕ) (s : Option Symbol) → Chosen a l k s → Chosen b l k s
  chosen_same true k (Some (Long j)) x = (x.0, ∥∥₁_map x.1 (starts_same a b (Long k) h))
  chosen_same true k (Some (Plain j)) x = (
    x.0,
    λ y. x.1 (starts_same b a (Long k) (flip a b h) y),
    ∥∥₁_map x.2 (starts_same a b (Plain k) h),
  )
  chosen_same true k None x = (
    λ y. x.0 (starts_same b a (Long k) (flip a b h) y),
    λ y. x.1 (starts_same b a (Plain k) (flip a b h) y),
  )
  chosen_same false k (Some (Long j)) x = x
  chosen_same false k (Some (Plain j)) x = (x.0, ∥∥₁_map x.1 (starts_same a b (Plain k) h))
  chosen_same false k None x = λ y. x (starts_same b a (Plain k) (flip a b h) y)

  pub extra_same : (l : Bool) (k : ℕ) (s : Symbol) → Extra a l k s → Extra b l k s
  extra_same true k (Long j) x = (x.0, ∥∥₁_map x.1 (any_long_same a b h))
  extra_same true k (Plain j) x = (x.0, λ y. x.1 (any_long_same b a (flip a b h) y))
  extra_same false k (Long j) x = x
  extra_same false k (Plain j) x = x

  pub judged_same : (p : Procedure) (m : Option Method) → Judged p a m → Judged p b m
  judged_same Base (Some m) x = (
    x.0,
    ∥∥₁_map x.1 (ended_same a b h),
    λ y. x.2 (goes_on_same b a (flip a b h) y),
  )
  judged_same Base None x = λ y z. x (ended_same b a (flip a b h) y) (λ g. z (goes_on_same a b h g))
  judged_same Shortest (Some m) x = (x.0, ∥∥₁_map x.1 (settled_same a b h))
  judged_same Shortest None x = λ y. x (settled_same b a (flip a b h) y)

  pub falls_same : (m : Method) → Falls a m → Falls b m
  falls_same Unambiguous x = x
  falls_same Full x = ∥∥₁_map x (ended_same a b h)
  falls_same Partial x = λ y. x (ended_same b a (flip a b h) y)

  pub missed_same : (p : Procedure) (m : Method) → Missed p a m → Missed p b m
  missed_same Base m x = falls_same m x
  missed_same Shortest m x = x

  later_same : (t : Timers) (m : Mark) (v : Timer × ℕ) → Later t a m v → Later t b m v
  later_same t mark.Long v x = x
  later_same t mark.Short v x = x
  later_same t mark.Unmarked v (inl x) = inl (∥∥₁_map x.0 (ended_same a b h), x.1)
  later_same t mark.Unmarked v (inr x) = inr (λ y. x.0 (ended_same b a (flip a b h) y), x.1)

  pub awaits_same : (t : Timers) (f : Bool) (v : Option (Timer × ℕ)) → Awaits t a f v → Awaits t b f v
  awaits_same t true None x = x
  awaits_same t true (Some v) x = x
  awaits_same t false None x = x
  awaits_same t false (Some v) x = (x.0, timing_same a b x.0 h x.1, later_same t x.0 v x.2)

pub running_same : (st : State) (a b : Entries) → (st.phase ≡ Open → Same a b) → (v : Option (Timer × ℕ))
    → Running st a v → Running st b v
running_same st a b h v (inl x) =
    inl (x.0, awaits_same a b (h x.0) st.settings.timers (fresh st.dial) v x.1)
running_same st a b h v (inr x) = inr x

-- two answers over the same entries are one

module _ (a b : Entries) (h : Same a b) where
  pub chosen_unique : (l : Bool) (k : ℕ) (s t : Option Symbol) → Chosen a l k s → Chosen b l k t → s ≡ t
  chosen_unique l k s t x y = chosen_single b l k s t (chosen_same a b h l k s x) y

  pub extra_unique : (l : Bool) (k : ℕ) (s t : Symbol) → Extra a l k s → Extra b l k t → s ≡ t
  extra_unique l k s t x y = extra_single b l k s t (extra_same a b h l k s x) y

  pub judged_unique : (p : Procedure) (m n : Option Method) → Judged p a m → Judged p b n → m ≡ n
  judged_unique p m n x y = judged_single b p m n (judged_same a b h p m x) y

  pub falls_unique : (m n : Method) → Falls a m → Falls b n → m ≡ n
  falls_unique m n x y = falls_single b m n (falls_same a b h m x) y

  pub missed_unique : (p : Procedure) (m n : Method) → Missed p a m → Missed p b n → m ≡ n
  missed_unique p m n x y = missed_single b p m n (missed_same a b h p m x) y

  pub awaits_unique : (t : Timers) (f : Bool) (u v : Option (Timer × ℕ)) → Awaits t a f u → Awaits t b f v
      → u ≡ v
  awaits_unique t f u v x y = awaits_single b t f u v (awaits_same a b h t f u x) y

pub running_unique : (st : State) (a b : Entries) → (st.phase ≡ Open → Same a b) → (u v : Option (Timer × ℕ))
    → Running st a u → Running st b v → u ≡ v
running_unique st a b h u v x y = running_single st b u v (running_same st a b h u x) y
