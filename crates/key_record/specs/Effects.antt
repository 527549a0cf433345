-- What a call does to a line. Assumes nothing.
use Rattle.std.specs.Prelude.{◌≡◌, ℕ, List, [], ◌∷◌, ◌++◌, length, Some, None, Option, Ok, Err, Result}
use Rattle.keypad.specs.declared.key.KeyEvent.{KeyEvent}
use Rattle.keypad.specs.declared.key.Symbol.{Symbol}
use Rattle.keypad.specs.Entries.{Entries}
use Rattle.key_record.specs.declared.answer.Answer.{Answer}
use Rattle.key_record.specs.declared.answer.Answer.TheVariants.{Moved, Claimed, Booked, Waived}
use Rattle.key_record.specs.declared.answer.Progress.TheVariants.{Done, Wait, Ahead}
use Rattle.key_record.specs.declared.ending.Ending.{Ending}
use Rattle.key_record.specs.declared.ending.Phase.TheVariants as phase
use Rattle.key_record.specs.declared.refusal.Refusal.{Refusal}
use Rattle.key_record.specs.declared.settings.Settings.{Settings}
use Rattle.key_record.specs.declared.timer.Timer.{Timer}
use Rattle.key_record.specs.Turns.{Outcome, still, over}
use Rattle.key_record.specs.States.{State, with_phase, with_ahead, armed, lands, Running}

-- it is refused; a key joins those ahead; an arming begins an entry, which comes to an outcome; a key or an
-- expiry brings the open entry to an outcome; the report is claimed; it is settled, and its line written or
-- not
pub data Effect : Type 0 where
  refuses : Refusal → Effect
  queues : KeyEvent → Effect
  begins : Settings → Outcome → Effect
  presses : Outcome → Effect
  claims : Ending → Effect
  settles : Option (List ℕ) → Effect

abbrev pub after : State → Effect → State
after st (refuses why) = st
after st (queues k) = with_ahead st (st.ahead ++ k ∷ [])
after st (begins s out) = lands (armed st s) out
after st (presses out) = lands st out
after st (claims e) = with_phase st (phase.Claimed e)
after st (settles l) = with_phase st phase.Idle

-- the symbols that the call pressed
abbrev pub pressed_by : Effect → List Symbol
pressed_by (refuses why) = []
pressed_by (queues k) = []
pressed_by (begins s (still p t)) = p
pressed_by (begins s (over o)) = o.pressed
pressed_by (presses (still p t)) = p
pressed_by (presses (over o)) = o.pressed
pressed_by (claims e) = []
pressed_by (settles l) = []

-- the entries that they were pressed of, w being the whole and a what remained: an arming rewinds
abbrev pub pressed_of : Effect → Entries → Entries → Entries
pressed_of (refuses why) w a = a
pressed_of (queues k) w a = a
pressed_of (begins s out) w a = w
pressed_of (presses out) w a = a
pressed_of (claims e) w a = a
pressed_of (settles l) w a = a

-- an outcome's answer, at the line after it with the entries a remaining
abbrev pub Progresses : Entries → State → Outcome → Result Answer Refusal → Type 0
Progresses a st (still p t) x = (v : Option (Timer × ℕ)) × Running st a v × (x ≡ Ok (Moved (Wait v)))
Progresses a st (over o) x = x ≡ Ok (Moved Done)

-- the answer, at the line after the call with the entries a remaining
abbrev pub Replies : Entries → State → Effect → Result Answer Refusal → Type 0
Replies a st (refuses why) x = x ≡ Err why
Replies a st (queues k) x = x ≡ Ok (Moved (Ahead (length st.ahead)))
Replies a st (begins s out) x = Progresses a st out x
Replies a st (presses out) x = Progresses a st out x
Replies a st (claims e) x = x ≡ Ok (Claimed (record { number = st.number; count = st.count }))
Replies a st (settles None) x = x ≡ Ok Waived
Replies a st (settles (Some l)) x = x ≡ Ok (Booked (length l))
