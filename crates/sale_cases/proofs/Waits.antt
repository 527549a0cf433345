-- Which timer runs, by facts. Assumes nothing.
use Rattle.std.proofs.Common.{◌≡◌, ℕ, Bool, true, false, cond, ltb, Some, None, Option, refl, inl, inr, arith}
use Rattle.std.proofs.lemmas.Bool.{cond_both, ltb-true, ltb-false}
use Rattle.keypad.specs.declared.key.Mark.{Mark}
use Rattle.keypad.specs.declared.key.Mark.TheVariants as mark
use Rattle.keypad.specs.declared.timers.Timers.{Timers}
use Rattle.keypad.specs.Entries.{Entries}
use Rattle.keypad.specs.Answers.{Timing}
use Rattle.key_record.specs.declared.ending.Phase.{Phase}
use Rattle.key_record.specs.declared.ending.Phase.TheVariants.{Idle, Open, Done, Claimed}
use Rattle.key_record.specs.declared.timer.Timer.{Timer}
use Rattle.key_record.specs.declared.timer.Timer.TheVariants as timer
use Rattle.key_record.specs.Dials.{fresh}
use Rattle.key_record.specs.Keying.{Later, Awaits}
use Rattle.key_record.specs.States.{State, Running}
use Rattle.sale_cases.proofs.Facts.{Facts, Knows, Tests, told_cond, whether_cond}

abbrev pub short_or_none : Facts → Mark
short_or_none k = cond (k.under mark.Short) mark.Short mark.Unmarked

abbrev pub timing : Facts → Mark
timing k = cond (k.under mark.Long) mark.Long (short_or_none k)

abbrev pub later : Timers → Facts → Mark → Timer × ℕ
later t k mark.Long = (timer.Long, t.long)
later t k mark.Short = (timer.Short, t.short)
later t k mark.Unmarked = cond k.ended (timer.Short, t.short) (timer.Long, t.long)

abbrev pub waiting : Timers → Facts → Bool → Option (Timer × ℕ)
waiting t k true = cond (ltb 0 t.start) (Some (timer.Start, t.start)) None
waiting t k false = Some (later t k (timing k))

abbrev pub is_open : Phase → Bool
is_open Idle = false
is_open Open = true
is_open (Done e) = false
is_open (Claimed e) = false

abbrev pub running : State → Facts → Option (Timer × ℕ)
running st k = cond (is_open st.phase) (waiting st.settings.timers k (fresh st.dial)) None

pub open_tested : (p : Phase) → Tests (p ≡ Open) (is_open p)
open_tested Idle = λ e. let z : ◌≡◌ {A = ℕ} 0 1 = cc in omega arith
open_tested Open = refl
open_tested (Done x) = λ e. let z : ◌≡◌ {A = ℕ} 0 1 = cc in omega arith
open_tested (Claimed x) = λ e. let z : ◌≡◌ {A = ℕ} 0 1 = cc in omega arith

module _ (a : Entries) (k : Facts) (h : Knows a k) where
  -- the timing by its three cases
  timed : (F : Mark → Type 0) → ((m : Mark) → Timing a m → F m) → F (timing k)
  timed F f = told_cond F _ _ (k.under mark.Long) (h.under mark.Long) (λ x. f mark.Long x)
      (λ x. told_cond F _ _ (k.under mark.Short) (h.under mark.Short) (λ y. f mark.Short (x, y))
      (λ y. f mark.Unmarked (x, y)))

  later_told : (t : Timers) (m : Mark) → Later t a m (later t k m)
  later_told t mark.Long = refl
  later_told t mark.Short = refl
  later_told t mark.Unmarked =
      told_cond (Later t a mark.Unmarked) _ _ k.ended h.ended (λ x. inl (x, refl)) (λ x. inr (x, refl))

  awaits : (t : Timers) (b : Bool) → Awaits t a b (waiting t k b)
  awaits t true = cond_both (ltb 0 t.start) _ _ (Awaits t a true) (λ e. (ltb-true 0 t.start e, refl))
      (λ e. let l = ltb-false 0 t.start e in omega arith)
  awaits t false = (timing k, timed (Timing a) (λ m x. x), later_told t (timing k))

  pub runs : (st : State) → Running st a (running st k)
  runs st = whether_cond (λ _. Awaits st.settings.timers a (fresh st.dial)) (λ v. v ≡ None) _ _
      (is_open st.phase) (open_tested st.phase)
      (λ _. awaits st.settings.timers (fresh st.dial)) refl
