-- A list of calls played on a line. Assumes nothing.
use Rattle.std.specs.Prelude.{◌≡◌, ℕ, ◌+◌, ◌≤◌, List, [], ◌∷◌, ◌++◌, map, vec_items, vec_len, vec_capacity, Result}
use Rattle.keypad.specs.Entries.{Entries}
use Rattle.key_record.specs.declared.answer.Answer.{Answer}
use Rattle.key_record.specs.declared.answer.Reply.{Reply}
use Rattle.key_record.specs.declared.call.Call.{Call}
use Rattle.key_record.specs.declared.refusal.Refusal.{Refusal}
use Rattle.key_record.specs.Agreement.{Reported, Shown}
use Rattle.key_record.specs.Effects.{Effect, refuses, queues, begins, presses, claims, settles}
use Rattle.key_record.specs.Entry.{open_dial}
use Rattle.key_record.specs.States.{State, Running}
use Rattle.key_record.specs.Turns.{Outcome, still, over}
use Rattle.line_parts.specs.declared.report.Report.{Report}
use Rattle.line_parts.specs.Dialled.{dialled}
use Rattle.line.specs.declared.play.Played.{Played}
use Rattle.line.specs.Does.{Does}
use Rattle.line.specs.Lines.{state_of}
use Rattle.line.specs.Rooms.{Room}
use Rattle.line.specs.Written.{written}

abbrev pub report_shown : Report → Reported
report_shown r = record { dial = dialled r.dial; ending = r.ending }

-- what a line shows after the calls
abbrev pub played_shown : {X : Type 0} → Played X → Shown
played_shown p = record {
  replies = vec_items p.log.replies;
  reports = map report_shown (vec_items p.log.reports);
  lines = vec_items p.log.lines;
  entry = open_dial (state_of p.line);
  ahead = (state_of p.line).ahead;
}

-- the report that an outcome brings, st being the line after it
abbrev pub brought_by : State → Outcome → List Reported
brought_by st (still p t) = []
brought_by st (over o) = record { dial = st.dial; ending = o.ending } ∷ []

abbrev pub brought : State → Effect → List Reported
brought st (refuses why) = []
brought st (queues k) = []
brought st (begins s out) = brought_by st out
brought st (presses out) = brought_by st out
brought st (claims e) = []
brought st (settles l) = []

-- one call, with the bytes that it wrote
pub record Called {X : Type 0} (whole rest : X → Entries) (l : Played X) (c : Call) (x : Result Answer Refusal)
    (m : Played X) : Type 0 where
  pub does : Does whole rest l.line c x m.line
  pub replies : m.log.replies ≡ l.log.replies
  pub reports : m.log.reports ≡ l.log.reports
  pub lines : vec_items m.log.lines ≡ vec_items l.log.lines ++ written does.effect
  pub more : vec_len m.log.lines ≤ vec_len l.log.lines + 85
  pub capacity : vec_capacity l.log.lines ≤ vec_capacity m.log.lines

-- one call, noted with its reply and the report that it brought
pub record Noted {X : Type 0} (whole rest : X → Entries) (l : Played X) (c : Call)
    (m : Played X) : Type 0 where
  pub reply : Reply
  pub does : Does whole rest l.line c reply.answer m.line
  pub running : Running (state_of m.line) (rest m.line.plan) reply.timer
  pub replies : vec_items m.log.replies ≡ vec_items l.log.replies ++ reply ∷ []
  pub reports : map report_shown (vec_items m.log.reports)
      ≡ map report_shown (vec_items l.log.reports) ++ brought (state_of m.line) does.effect
  pub lines : vec_items m.log.lines ≡ vec_items l.log.lines ++ written does.effect
  pub room : (n : ℕ) → Room l.log (n + 1) → Room m.log n
