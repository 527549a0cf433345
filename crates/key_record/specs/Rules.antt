-- Which effect a call has: one rule to a call, its refusals in the order of trying. Assumes nothing.
use Rattle.std.specs.Prelude.{◌≡◌, ℕ, ◌+◌, ◌<◌, ◌≤◌, [], ◌∷◌, length, Some, None}
use Rattle.keypad.specs.declared.key.KeyEvent.{KeyEvent}
use Rattle.keypad.specs.declared.key.Symbol.{Symbol}
use Rattle.keypad.specs.Entries.{Entries}
use Rattle.key_record.specs.declared.call.Call.{Call}
use Rattle.key_record.specs.declared.call.Call.TheVariants as call
use Rattle.key_record.specs.declared.call.Numbers.{Numbers}
use Rattle.key_record.specs.declared.ending.Ending.{Ending}
use Rattle.key_record.specs.declared.ending.Method.{Method}
use Rattle.key_record.specs.declared.ending.Phase.TheVariants.{Idle, Open, Done, Claimed}
use Rattle.key_record.specs.declared.ending.Trigger.TheVariants.{Expiry}
use Rattle.key_record.specs.declared.refusal.Refusal.{Refusal}
use Rattle.key_record.specs.declared.refusal.Refusal.TheVariants.{NotIdle, Setting, Reports, Key, Ahead, Dial, NoTimer, OtherTimer, NotDone, Receipt, Memory}
use Rattle.key_record.specs.declared.settings.Settings.{Settings}
use Rattle.key_record.specs.declared.timer.Timer.{Timer}
use Rattle.key_record.specs.Bounds.{Lawful}
use Rattle.key_record.specs.Dials.{width, chars}
use Rattle.key_record.specs.Keying.{is_long, Chosen, Falls}
use Rattle.key_record.specs.Turns.{Outcome, over, Fed}
use Rattle.key_record.specs.Letters.{report_line}
use Rattle.key_record.specs.States.{State, Whether, Running}
use Rattle.key_record.specs.Effects.{Effect, refuses, queues, begins, presses, claims, settles}

-- under the condition as said, else refused for the reason
abbrev pub Needs : (P : Type 0) → Refusal → (P → Effect → Type 0) → Effect → Type 0
Needs P why X = Whether P X (λ f. f ≡ refuses why)

-- an arming of an idle line feeds the keys ahead to the plan from its start; w is the whole
abbrev pub Arming : State → Entries → Settings → Effect → Type 0
Arming st w s = Needs (st.phase ≡ Idle) NotIdle
    (λ _. Needs (Lawful s.timers) Setting (λ _. Needs (st.count < 999999) Reports
    (λ _ f. (out : Outcome) × Fed s w [] [] st.ahead out × (f ≡ begins s out))))

-- a symbol that the key is pressed as leaves the dial string with at most 64 characters
abbrev pub Fits : State → Entries → KeyEvent → Type 0
Fits st a k = (y : Symbol) → Chosen a (is_long st.settings.timers k) k.key (Some y)
    → chars st.dial + width y ≤ 64

-- a key of an open line is fed to what remains, a
abbrev pub Pressing : State → Entries → KeyEvent → Effect → Type 0
Pressing st a k = Needs (Fits st a k) Dial
    (λ _ f. (out : Outcome) × Fed st.settings a [] [] (k ∷ []) out × (f ≡ presses out))

-- a key of another joins the keys ahead
abbrev pub Queueing : State → KeyEvent → Effect → Type 0
Queueing st k = Needs (length st.ahead < 32) Ahead (λ _ f. f ≡ queues k)

abbrev pub Keying : State → Entries → KeyEvent → Effect → Type 0
Keying st a k = Needs (k.key ≤ 15) Key
    (λ _. Whether (st.phase ≡ Open) (λ _. Pressing st a k) (Queueing st k))

-- the timer adds its letter; the report is full if some entry has ended, else partial
abbrev pub lapsed : Method → Timer → Outcome
lapsed m t = over (record {
  pressed = [];
  taken = [];
  ending = record { method = m; trigger = Expiry t };
  extra = None;
  left = [];
})

-- an expiry names the timer that runs
abbrev pub Expiring : State → Entries → Timer → Effect → Type 0
Expiring st a t = Needs ((v : Timer × ℕ) × Running st a (Some v)) NoTimer
    (λ _. Needs ((n : ℕ) × Running st a (Some (t, n))) OtherTimer
    (λ _ f. (m : Method) × Falls a m × (f ≡ presses (lapsed m t))))

abbrev pub Claiming : State → Effect → Type 0
Claiming st = Needs ((e : Ending) × (st.phase ≡ Done e)) NotDone (λ h f. f ≡ claims h.0)

-- the receipt is that of the report which is claimed
abbrev pub Presents : State → Numbers → Type 0
Presents st r = (e : Ending) × (st.phase ≡ Claimed e) × (r.number ≡ st.number) × (r.count ≡ st.count)

-- a booking writes the report line into memory of n bytes
abbrev pub Booking : State → Numbers → ℕ → Effect → Type 0
Booking st r n = Needs (Presents st r) Receipt (λ h. Needs (length (report_line st.dial h.0) ≤ n) Memory
    (λ _ f. f ≡ settles (Some (report_line st.dial h.0))))

abbrev pub Waiving : State → Numbers → Effect → Type 0
Waiving st r = Needs (Presents st r) Receipt (λ _ f. f ≡ settles None)

-- the call has the effect; w is the plan's whole, and a what remains of it
abbrev pub Allows : State → Entries → Entries → Call → Effect → Type 0
Allows st w a (call.Arm s) = Arming st w s
Allows st w a (call.Key k) = Keying st a k
Allows st w a (call.Expire t) = Expiring st a t
Allows st w a call.Claim = Claiming st
Allows st w a (call.Book r n) = Booking st r n
Allows st w a (call.Waive r) = Waiving st r
