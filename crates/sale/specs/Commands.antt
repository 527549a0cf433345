-- The calls that a command makes, and what is printed of their answers. Assumes nothing.
use Rattle.std.specs.Prelude.{ℕ, List, [], ◌∷◌, Ok, Err, Result}
use Rattle.keypad.specs.declared.timers.Timers.{Timers}
use Rattle.key_record.specs.declared.answer.Answer.{Answer}
use Rattle.key_record.specs.declared.answer.Answer.TheVariants.{Moved, Claimed, Booked, Waived}
use Rattle.key_record.specs.declared.call.Call.{Call}
use Rattle.key_record.specs.declared.call.Call.TheVariants as call
use Rattle.key_record.specs.declared.call.Numbers.{Numbers}
use Rattle.key_record.specs.declared.ending.Phase.{Phase}
use Rattle.key_record.specs.declared.ending.Phase.TheVariants as phase
use Rattle.key_record.specs.declared.refusal.Refusal.{Refusal}
use Rattle.key_record.specs.States.{State}
use Rattle.commands.specs.declared.command.Command.{Command}
use Rattle.commands.specs.declared.command.Command.TheVariants.{Arm, Key, Expire, Close}
use Rattle.commands.specs.Told.{told_line}

-- a done line is claimed, and its report booked by the receipt into memory of n bytes; any other is only
-- claimed
abbrev pub closing : Phase → Numbers → ℕ → List Call
closing phase.Idle r n = call.Claim ∷ []
closing phase.Open r n = call.Claim ∷ []
closing (phase.Done e) r n = call.Claim ∷ call.Book r n ∷ []
closing (phase.Claimed e) r n = call.Claim ∷ []

-- the calls of a command, at a line that is armed with the timers and lends n bytes
abbrev pub calls_of : Timers → ℕ → State → Command → List Call
calls_of t n st (Arm p d) = call.Arm (record { procedure = p; disposition = d; timers = t }) ∷ []
calls_of t n st (Key k) = call.Key k ∷ []
calls_of t n st (Expire e) = call.Expire e ∷ []
calls_of t n st Close = closing st.phase (record { number = st.number; count = st.count }) n

-- what is printed of an answer; a booking prints the report line that it writes, and nothing else
abbrev pub answer_line : Result Answer Refusal → List ℕ
answer_line (Ok (Moved p)) = told_line (Ok p)
answer_line (Ok (Claimed r)) = []
answer_line (Ok (Booked n)) = []
answer_line (Ok Waived) = []
answer_line (Err why) = told_line (Err why)

-- what is printed of the last answer
abbrev pub last_line : List (Result Answer Refusal) → List ℕ
last_line [] = []
last_line (x ∷ []) = answer_line x
last_line (x ∷ y ∷ xs) = last_line (y ∷ xs)
