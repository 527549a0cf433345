-- A report claimed and booked in one go. Assumes nothing.
use Rattle.std.specs.Prelude.{◌≡◌, ℕ, ◌≤◌, List, ◌++◌, length, drop, Ok, Err, Result}
use Rattle.keypad.specs.Entries.{Entries}
use Rattle.key_record.specs.declared.answer.Answer.TheVariants.{Claimed, Booked}
use Rattle.key_record.specs.declared.call.Call.TheVariants.{Claim, Book}
use Rattle.key_record.specs.declared.call.Numbers.{Numbers}
use Rattle.key_record.specs.declared.ending.Ending.{Ending}
use Rattle.key_record.specs.declared.ending.Phase.TheVariants.{Done}
use Rattle.key_record.specs.declared.refusal.Refusal.{Refusal}
use Rattle.key_record.specs.declared.refusal.Refusal.TheVariants.{NotDone, Memory}
use Rattle.key_record.specs.Letters.{report_line}
use Rattle.key_record.specs.States.{Whether}
use Rattle.line_parts.specs.Dialled.{dialled}
use Rattle.line.specs.declared.line.Line.{Line}
use Rattle.line.specs.Does.{Does}

-- the line l was claimed, which left mid, and mid was booked by the numbers of its receipt, which left m; the
-- report line stands at the start of the memory, and the bytes behind it are as before
pub record Closed {X : Type 0} (whole rest : X → Entries) (l : Line X) (before line : List ℕ) (m : Line X)
    (after : List ℕ) : Type 0 where
  pub mid : Line X
  pub numbers : Numbers
  pub claimed : Does whole rest l Claim (Ok (Claimed numbers)) mid
  pub booked : Does whole rest mid (Book numbers (length before)) (Ok (Booked (length line))) m
  pub memory : after ≡ line ++ drop (length line) before

-- refused, with line and memory as they were
abbrev pub Declined : {X : Type 0} → Line X → List ℕ → Line X → List ℕ → Refusal → Result ℕ Refusal → Type 0
Declined l before m after why r = (r ≡ Err why) × (m ≡ l) × (after ≡ before)

-- 85 bytes of memory are asked for first, in which every report line has room, and then a report
abbrev pub Closes : {X : Type 0} (whole rest : X → Entries) → Line X → List ℕ → Line X → List ℕ
    → Result ℕ Refusal → Type 0
Closes whole rest l before m after = Whether (85 ≤ length before)
    (λ _. Whether ((e : Ending) × (l.phase ≡ Done e))
    (λ h r. (r ≡ Ok (length (report_line (dialled l.dial) h.0)))
    × Closed whole rest l before (report_line (dialled l.dial) h.0) m after)
    (Declined l before m after NotDone))
    (Declined l before m after Memory)
