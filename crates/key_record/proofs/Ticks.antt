-- The timer that runs, told by the whole. Assumes nothing.
use Rattle.std.proofs.Common.{◌≡◌, ℕ, List, [], ◌∷◌, Some, None, Option, inl, inr, arith}
use mathlib.Core.Logic.{∥∥₁_map}
use Rattle.keypad.specs.declared.key.Mark.{Mark}
use Rattle.keypad.specs.declared.key.Mark.TheVariants.{Unmarked, Short, Long}
use Rattle.keypad.specs.declared.key.Symbol.{Symbol}
use Rattle.keypad.specs.declared.timers.Timers.{Timers}
use Rattle.keypad.specs.Entries.{Entries}
use Rattle.keypad.specs.Sets.{Remains, Under}
use Rattle.keypad.specs.Answers.{Timing}
use Rattle.keypad.proofs.Sames.{clash}
use Rattle.key_record.specs.declared.timer.Timer.{Timer}
use Rattle.key_record.specs.Dials.{fresh}
use Rattle.key_record.specs.Keying.{Later, Awaits}
use Rattle.key_record.specs.Matching.{AwaitsUnder}
use Rattle.key_record.specs.States.{State, Running}
use Rattle.key_record.specs.Ticking.{TicksOn, Ticks, Ticking}
use Rattle.key_record.proofs.Remaining.{ended_entry, entry_ended, under_awaits, awaits_under}

module _ (t : Timers) (w : Entries) where
  unawaited : (d : List Symbol) (m : Mark) → (Under (Remains w d) m → ⊥) → ∥ AwaitsUnder w d m ∥₁ → ⊥
  unawaited d m never x = clash x (λ q. never (awaits_under w d m q))

  later_ticks : (d : List Symbol) (m : Mark) (v : Timer × ℕ) → Timing (Remains w d) m
      → Later t (Remains w d) m v → TicksOn t w d v
  later_ticks d Long v x e = inl (∥∥₁_map x (under_awaits w d Long), e)
  later_ticks d Short v (never, x) e =
      inr (unawaited d Long never, inl (∥∥₁_map x (under_awaits w d Short), e))
  later_ticks d Unmarked v (never, none) (inl (x, e)) =
      inr (unawaited d Long never, inr (unawaited d Short none, inl (∥∥₁_map x (ended_entry w d), e)))
  later_ticks d Unmarked v (never, none) (inr (unended, e)) =
      inr (
        unawaited d Long never,
        inr (
          unawaited d Short none,
          inr (λ i. clash i (λ q. unended (entry_ended w d q)), e),
        ),
      )

  awaits_ticks : (d : List Symbol) (v : Option (Timer × ℕ)) → Awaits t (Remains w d) (fresh d) v
      → Ticks t w d v
  awaits_ticks [] None x = x
  awaits_ticks [] (Some v) x = x
  awaits_ticks (y ∷ d) None x = x
  awaits_ticks (y ∷ d) (Some v) (m, timing, later) = later_ticks (y ∷ d) m v timing later

module _ (w : Entries) (st : State) where
  pub running_ticks : (v : Option (Timer × ℕ)) → Running st (Remains w st.dial) v → Ticking w st v
  running_ticks v (inl (opened, x)) = inl (opened, awaits_ticks st.settings.timers w st.dial v x)
  running_ticks v (inr x) = inr x

  -- a timer that runs is that of the dial string
  pub timer_ticks : (v : Timer × ℕ) → Running st (Remains w st.dial) (Some v)
      → Ticks st.settings.timers w st.dial (Some v)
  timer_ticks v (inl (opened, x)) = awaits_ticks st.settings.timers w st.dial (Some v) x
  timer_ticks v (inr (shut, e)) = absurd (let z : ◌≡◌ {A = ℕ} 0 1 = cc in omega arith)
