-- The report of a line that is done, and the one that an answer brings. Assumes nothing.
use Rattle.std.specs.Prelude.{◌≡◌, List, Some, None, Option, Ok, Err, Result}
use Rattle.keypad.specs.declared.key.Symbol.{Symbol}
use Rattle.key_record.specs.declared.answer.Answer.{Answer}
use Rattle.key_record.specs.declared.answer.Answer.TheVariants as answer
use Rattle.key_record.specs.declared.answer.Answer.TheVariants.{Moved, Booked, Waived}
use Rattle.key_record.specs.declared.answer.Progress.TheVariants as progress
use Rattle.key_record.specs.declared.answer.Progress.TheVariants.{Wait, Ahead}
use Rattle.key_record.specs.declared.ending.Phase.{Phase}
use Rattle.key_record.specs.declared.ending.Phase.TheVariants.{Idle, Open, Done, Claimed}
use Rattle.key_record.specs.declared.refusal.Refusal.{Refusal}
use Rattle.line_parts.specs.declared.report.Report.{Report}
use Rattle.line_parts.specs.Dialled.{dialled}

-- the dial string and how it ended, while the line is done; else none
abbrev pub Reported : Phase → List Symbol → Option Report → Type 0
Reported (Done e) d (Some r) = (dialled r.dial ≡ d) × (r.ending ≡ e)
Reported (Done e) d None = ⊥
Reported Idle d r = r ≡ None
Reported Open d r = r ≡ None
Reported (Claimed e) d r = r ≡ None

-- the report that an answer brings, at a line in phase p with the dial string d: only Done brings one
abbrev pub Brings : Result Answer Refusal → Phase → List Symbol → Option Report → Type 0
Brings (Ok (Moved progress.Done)) p d r = Reported p d r
Brings (Ok (Moved (Wait v))) p d r = r ≡ None
Brings (Ok (Moved (Ahead n))) p d r = r ≡ None
Brings (Ok (answer.Claimed n)) p d r = r ≡ None
Brings (Ok (Booked n)) p d r = r ≡ None
Brings (Ok Waived) p d r = r ≡ None
Brings (Err why) p d r = r ≡ None
