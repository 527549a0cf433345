-- What a call does to a line, whatever the line is. Assumes nothing.
use Rattle.std.specs.Prelude.{◌≡◌, Ok, Err, Result}
use Rattle.keypad.specs.Entries.{Entries}
use Rattle.keypad.specs.Sets.{Same, Remains}
use Rattle.key_record.specs.declared.answer.Answer.{Answer}
use Rattle.key_record.specs.declared.answer.Answer.TheVariants.{Moved, Claimed}
use Rattle.key_record.specs.declared.answer.Progress.{Progress}
use Rattle.key_record.specs.declared.call.Call.{Call}
use Rattle.key_record.specs.declared.call.Call.TheVariants as call
use Rattle.key_record.specs.declared.refusal.Refusal.{Refusal}
use Rattle.key_record.specs.Effects.{Effect, refuses, after, pressed_by, pressed_of, Replies}
use Rattle.key_record.specs.Rules.{Allows}
use Rattle.line.specs.declared.line.Line.{Line}
use Rattle.line.specs.declared.line.calls.Input.{Input}
use Rattle.line.specs.declared.line.calls.Input.TheVariants as input
use Rattle.line.specs.declared.receipt.Receipt.{Receipt}
use Rattle.line.specs.Lines.{state_of}

-- the call c has an effect that the rules allow at the line l; x is its answer and m the line after it. The
-- plan keeps its whole and has taken the symbols that the effect pressed; a refused call leaves the line as
-- it was
pub record Does {X : Type 0} (whole rest : X → Entries) (l : Line X) (c : Call) (x : Result Answer Refusal)
    (m : Line X) : Type 0 where
  pub effect : Effect
  pub allowed : Allows (state_of l) (whole l.plan) (rest l.plan) c effect
  pub state : state_of m ≡ after (state_of l) effect
  pub answered : Replies (rest m.plan) (state_of m) effect x
  pub same : Same (whole m.plan) (whole l.plan)
  pub remains : Same (rest m.plan)
      (Remains (pressed_of effect (whole l.plan) (rest l.plan)) (pressed_by effect))
  pub unmoved : (why : Refusal) → effect ≡ refuses why → m ≡ l

-- the answer of an arming, a key or an expiry, and of a claim
abbrev pub moved : Result Progress Refusal → Result Answer Refusal
moved (Ok p) = Ok (Moved p)
moved (Err why) = Err why

abbrev pub handed : Result Receipt Refusal → Result Answer Refusal
handed (Ok r) = Ok (Claimed r.numbers)
handed (Err why) = Err why

abbrev pub call_of : Input → Call
call_of (input.Arm s) = call.Arm s
call_of (input.Key k) = call.Key k
call_of (input.Expire t) = call.Expire t
