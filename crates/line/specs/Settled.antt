-- Booking and waiving. Assumes nothing.
use Rattle.std.specs.Prelude.{◌≡◌, ℕ, List, ◌++◌, length, drop, Some, None, Ok, Err, Option, Result}
use Rattle.keypad.specs.Entries.{Entries}
use Rattle.key_record.specs.declared.answer.Answer.{Answer}
use Rattle.key_record.specs.declared.answer.Answer.TheVariants as answer
use Rattle.key_record.specs.declared.call.Call.TheVariants.{Book, Waive}
use Rattle.key_record.specs.declared.call.Numbers.{Numbers}
use Rattle.key_record.specs.declared.ending.Ending.{Ending}
use Rattle.key_record.specs.declared.ending.Phase.TheVariants.{Claimed}
use Rattle.key_record.specs.declared.refusal.Refusal.{Refusal}
use Rattle.key_record.specs.Effects.{Effect, refuses, queues, begins, presses, claims, settles}
use Rattle.key_record.specs.Rules.{Presents}
use Rattle.key_record.specs.States.{State}
use Rattle.line.specs.declared.line.Line.{Line}
use Rattle.line.specs.declared.receipt.Receipt.{Receipt}
use Rattle.line.specs.Does.{Does}

-- the ending of the report that the numbers claim, or none if they claim none
abbrev pub Presented : State → Numbers → Option Ending → Type 0
Presented st r (Some e) = (st.phase ≡ Claimed e) × (r.number ≡ st.number) × (r.count ≡ st.count)
Presented st r None = Presents st r → ⊥

abbrev pub book_answer : Result ℕ (Refusal × Receipt) → Result Answer Refusal
book_answer (Ok n) = Ok (answer.Booked n)
book_answer (Err e) = Err e.0

abbrev pub waive_answer : Result (Unit {0}) (Refusal × Receipt) → Result Answer Refusal
waive_answer (Ok u) = Ok answer.Waived
waive_answer (Err e) = Err e.0

-- a refusal hands the receipt back
abbrev pub HandedBack : {T : Type 0} → Receipt → Result T (Refusal × Receipt) → Type 0
HandedBack r (Ok x) = Unit {0}
HandedBack r (Err e) = e.1 ≡ r

-- a report line that is written stands at the start of the memory, and the bytes behind it are as before;
-- otherwise all are
abbrev pub Writes : Effect → List ℕ → List ℕ → Type 0
Writes (refuses why) before after = after ≡ before
Writes (queues k) before after = after ≡ before
Writes (begins s out) before after = after ≡ before
Writes (presses out) before after = after ≡ before
Writes (claims e) before after = after ≡ before
Writes (settles None) before after = after ≡ before
Writes (settles (Some l)) before after = after ≡ l ++ drop (length l) before

pub record Booked {X : Type 0} (whole rest : X → Entries) (l : Line X) (r : Receipt) (before : List ℕ)
    (x : Result ℕ (Refusal × Receipt)) (m : Line X) (after : List ℕ) : Type 0 where
  pub does : Does whole rest l (Book r.numbers (length before)) (book_answer x) m
  pub memory : Writes does.effect before after
  pub back : HandedBack r x

pub record Waived {X : Type 0} (whole rest : X → Entries) (l : Line X) (r : Receipt)
    (x : Result (Unit {0}) (Refusal × Receipt)) (m : Line X) : Type 0 where
  pub does : Does whole rest l (Waive r.numbers) (waive_answer x) m
  pub back : HandedBack r x
