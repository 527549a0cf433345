-- Which timer runs, in terms of the plan's entries. Assumes nothing.
use Rattle.std.specs.Prelude.{◌≡◌, ℕ, ◌<◌, List, [], ◌∷◌, Some, None, Option}
use Rattle.keypad.specs.declared.key.Mark.TheVariants as mark
use Rattle.keypad.specs.declared.key.Symbol.{Symbol}
use Rattle.keypad.specs.declared.timers.Timers.{Timers}
use Rattle.keypad.specs.Entries.{Entries}
use Rattle.key_record.specs.declared.answer.Reply.{Reply}
use Rattle.key_record.specs.declared.ending.Phase.TheVariants.{Open}
use Rattle.key_record.specs.declared.timer.Timer.{Timer}
use Rattle.key_record.specs.declared.timer.Timer.TheVariants.{Start, Short, Long}
use Rattle.key_record.specs.Matching.{IsEntry, AwaitsUnder}
use Rattle.key_record.specs.States.{State, Whether}

-- L if some entry that begins with the dial string awaits its next step or its end under L, else S if under
-- S, else S if the dial string is an entry, else L
abbrev pub TicksOn : Timers → Entries → List Symbol → Timer × ℕ → Type 0
TicksOn t w d = Whether ∥ AwaitsUnder w d mark.Long ∥₁ (λ _ v. v ≡ (Long, t.long))
    (Whether ∥ AwaitsUnder w d mark.Short ∥₁ (λ _ v. v ≡ (Short, t.short))
    (Whether ∥ IsEntry w d ∥₁ (λ _ v. v ≡ (Short, t.short)) (λ v. v ≡ (Long, t.long))))

-- the timer of a dial string with its seconds: before the first symbol T, none at all if T is 0
abbrev pub Ticks : Timers → Entries → List Symbol → Option (Timer × ℕ) → Type 0
Ticks t w [] None = t.start ≡ 0
Ticks t w [] (Some v) = (0 < t.start) × (v ≡ (Start, t.start))
Ticks t w (y ∷ d) None = ⊥
Ticks t w (y ∷ d) (Some v) = TicksOn t w (y ∷ d) v

-- the timer that runs at a line: that of its dial string while it is open, else none
abbrev pub Ticking : Entries → State → Option (Timer × ℕ) → Type 0
Ticking w st = Whether (st.phase ≡ Open) (λ _ v. Ticks st.settings.timers w st.dial v) (λ v. v ≡ None)

-- the timer that the last of the replies names, v before the first
abbrev pub latest : Option (Timer × ℕ) → List Reply → Option (Timer × ℕ)
latest v [] = v
latest v (x ∷ xs) = latest x.timer xs
