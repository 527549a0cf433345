-- What it means that a case holds. Assumes nothing.
use Rattle.std.specs.Prelude.{◌≡◌, ℕ, List, [], ◌∷◌, Some, None, Option, Ok, Result}
use Rattle.keypad.specs.declared.timers.Timers.{Timers}
use Rattle.digit_map.specs.declared.node.Node.{Node}
use Rattle.digit_map.specs.Derives.{Derives, FaultOf}
use Rattle.digit_map.specs.Meaning.{MapEntry}
use Rattle.key_record.specs.declared.answer.Answer.{Answer}
use Rattle.key_record.specs.declared.answer.Answer.TheVariants.{Moved}
use Rattle.key_record.specs.declared.answer.Progress.TheVariants.{Done, Wait}
use Rattle.key_record.specs.declared.answer.Reply.{Reply}
use Rattle.key_record.specs.declared.call.Call.{Call}
use Rattle.key_record.specs.declared.call.Call.TheVariants.{Arm}
use Rattle.key_record.specs.declared.refusal.Refusal.{Refusal}
use Rattle.key_record.specs.declared.settings.Settings.{Settings}
use Rattle.key_record.specs.Letters.{report_line}
use Rattle.key_record.specs.Record.{Told, Kept, start, Runs}
use Rattle.sale_cases.specs.Rows.{Expected, faulty, waits, reports, Row, sale_rows}

-- the last of the replies, by its answer, and behind it the given one if there is none
abbrev pub last_answer : Option (Result Answer Refusal) → List Reply → Option (Result Answer Refusal)
last_answer o [] = o
last_answer o (x ∷ xs) = last_answer (Some x.answer) xs

-- the line of the last report, and behind it the given one if there is none
abbrev pub last_line : Option (List ℕ) → List Told → Option (List ℕ)
last_line o [] = o
last_line o (t ∷ ts) = last_line (Some (report_line t.dial t.ending)) ts

-- the row's settings with the timers of its map, and all calls of the row
abbrev pub settings_of : Row → Timers → Settings
settings_of r t = record { procedure = r.procedure; disposition = r.disposition; timers = t }

abbrev pub calls_of : Row → Timers → List Call
calls_of r t = Arm (settings_of r t) ∷ r.calls

-- replies and a record of keys are as expected
abbrev pub Fits : Expected → List Reply → Kept → Type 0
Fits (faulty f) xs n = ⊥
Fits (waits t s) xs n = last_answer None xs ≡ Some (Ok (Moved (Wait (Some (t, s)))))
Fits (reports l) xs n = (last_answer None xs ≡ Some (Ok (Moved Done))) × (last_line None n.reports ≡ Some l)

-- the text stands for a map, and the calls of line 1 over the map's entries have a run that is as expected
pub record Walks (r : Row) : Type 0 where
  pub timers : Timers
  pub nodes : List Node
  pub derived : Derives r.text timers nodes
  pub replies : List Reply
  pub kept : Kept
  pub runs : Runs (MapEntry nodes) (start 1) (calls_of r timers) replies kept
  pub fits : Fits r.expected replies kept

-- a row holds: its text has the fault, or its calls go as expected
abbrev pub HoldsAs : Expected → Row → Type 0
HoldsAs (faulty f) r = FaultOf r.text f
HoldsAs (waits t s) r = Walks r
HoldsAs (reports l) r = Walks r

abbrev pub Holds : Row → Type 0
Holds r = HoldsAs r.expected r

abbrev pub AllHold : List Row → Type 0
AllHold [] = Unit {0}
AllHold (r ∷ rs) = Holds r × AllHold rs

-- every row of the sale's cases holds
abbrev pub SaleCases : Type 0
SaleCases = AllHold sale_rows
