-- What one key does to the entries that remain, and which timer runs. Assumes nothing.
use Rattle.std.specs.Prelude.{◌≡◌, ℕ, ◌<◌, ◌≤◌, Bool, true, false, ◌⊎◌, Some, None, Option, nat_lt}
use Rattle.keypad.specs.declared.key.KeyEvent.{KeyEvent}
use Rattle.keypad.specs.declared.key.Mark.{Mark}
use Rattle.keypad.specs.declared.key.Mark.TheVariants as mark
use Rattle.keypad.specs.declared.key.Symbol.{Symbol}
use Rattle.keypad.specs.declared.key.Symbol.TheVariants.{Plain, Long}
use Rattle.keypad.specs.declared.timers.Timers.{Timers}
use Rattle.keypad.specs.Entries.{Entries}
use Rattle.keypad.specs.Sets.{Starts, Ended, Settled, GoesOn}
use Rattle.keypad.specs.Answers.{Timing}
use Rattle.key_record.specs.declared.ending.Method.{Method}
use Rattle.key_record.specs.declared.ending.Method.TheVariants.{Unambiguous, Full, Partial}
use Rattle.key_record.specs.declared.settings.Procedure.{Procedure}
use Rattle.key_record.specs.declared.settings.Procedure.TheVariants.{Base, Shortest}
use Rattle.key_record.specs.declared.timer.Timer.{Timer}
use Rattle.key_record.specs.declared.timer.Timer.TheVariants as timer

-- a key is long exactly when it was held for more than Z
abbrev pub is_long : Timers → KeyEvent → Bool
is_long t k = nat_lt t.hold k.tenths

-- a long key whose long symbol is open is pressed as that, otherwise a key is pressed as its plain symbol if
-- that is open; none: it is unmatched
abbrev pub Chosen : Entries → Bool → ℕ → Option Symbol → Type 0
Chosen a true k (Some (Long j)) = (j ≡ k) × ∥ Starts a (Long k) ∥₁
Chosen a true k (Some (Plain j)) = (j ≡ k) × (Starts a (Long k) → ⊥) × ∥ Starts a (Plain k) ∥₁
Chosen a true k None = (Starts a (Long k) → ⊥) × (Starts a (Plain k) → ⊥)
Chosen a false k (Some (Long j)) = ⊥
Chosen a false k (Some (Plain j)) = (j ≡ k) × ∥ Starts a (Plain k) ∥₁
Chosen a false k None = Starts a (Plain k) → ⊥

-- some long symbol is open
abbrev pub AnyLong : Entries → Type 0
AnyLong a = (k : ℕ) × (k ≤ 15) × Starts a (Long k)

-- an unmatched key has a Z before it exactly when it was long and some long symbol is open
abbrev pub Extra : Entries → Bool → ℕ → Symbol → Type 0
Extra a true k (Long j) = (j ≡ k) × ∥ AnyLong a ∥₁
Extra a true k (Plain j) = (j ≡ k) × (AnyLong a → ⊥)
Extra a false k (Long j) = ⊥
Extra a false k (Plain j) = j ≡ k

-- whether a press ends the entry, a being what remains after it: in the base procedure, unambiguous, if some
-- entry has ended and none goes on; in shortest match, full, if one that is not held has ended
abbrev pub Judged : Procedure → Entries → Option Method → Type 0
Judged Base a (Some m) = (m ≡ Unambiguous) × ∥ Ended a ∥₁ × (GoesOn a → ⊥)
Judged Base a None = Ended a → (GoesOn a → ⊥) → ⊥
Judged Shortest a (Some m) = (m ≡ Full) × ∥ Settled a ∥₁
Judged Shortest a None = Settled a → ⊥

-- full if some entry has ended, else partial
abbrev pub Falls : Entries → Method → Type 0
Falls a Unambiguous = ⊥
Falls a Full = ∥ Ended a ∥₁
Falls a Partial = Ended a → ⊥

-- how an unmatched key ends the entry: in shortest match always partial
abbrev pub Missed : Procedure → Entries → Method → Type 0
Missed Base a m = Falls a m
Missed Shortest a m = m ≡ Partial

-- the timer after the first key, by the plan's timing; with none, S if some entry has ended, else L
abbrev pub Later : Timers → Entries → Mark → Timer × ℕ → Type 0
Later t a mark.Long v = v ≡ (timer.Long, t.long)
Later t a mark.Short v = v ≡ (timer.Short, t.short)
Later t a mark.Unmarked v = (∥ Ended a ∥₁ × (v ≡ (timer.Short, t.short)))
    ⊎ ((Ended a → ⊥) × (v ≡ (timer.Long, t.long)))

-- the timer of an open line with its seconds: T before the first key, none at all if T is 0
abbrev pub Awaits : Timers → Entries → Bool → Option (Timer × ℕ) → Type 0
Awaits t a true None = t.start ≡ 0
Awaits t a true (Some v) = (0 < t.start) × (v ≡ (timer.Start, t.start))
Awaits t a false None = ⊥
Awaits t a false (Some v) = (m : Mark) × Timing a m × Later t a m v
