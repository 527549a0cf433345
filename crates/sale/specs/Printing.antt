-- What a command does to any line, and what it prints. Assumes nothing.
use Rattle.std.specs.Prelude.{◌≡◌, ℕ, ◌<◌, ◌≤◌, ◌⊎◌, List, [], ◌∷◌, ◌++◌, length, drop, Ok, Err, Result}
use Rattle.keypad.specs.declared.timers.Timers.{Timers}
use Rattle.keypad.specs.Entries.{Entries}
use Rattle.key_record.specs.declared.answer.Answer.{Answer}
use Rattle.key_record.specs.declared.call.Call.{Call}
use Rattle.key_record.specs.declared.refusal.Refusal.{Refusal}
use Rattle.key_record.specs.declared.refusal.Refusal.TheVariants.{Memory}
use Rattle.commands.specs.declared.command.Command.{Command}
use Rattle.commands.specs.Told.{no_line, unreadable_number}
use Rattle.commands.specs.Written.{Writes}
use Rattle.line.specs.declared.line.Line.{Line}
use Rattle.line.specs.Does.{Does}
use Rattle.line.specs.Lines.{state_of}
use Rattle.line.specs.Written.{written}
use Rattle.sale.specs.Commands.{calls_of, last_line}

-- o stands at the start of the memory, the bytes behind it are as before, and n is its length
abbrev pub Printed : List ℕ → List ℕ → ℕ → List ℕ → Type 0
Printed o before n after = (n ≡ length o) × (after ≡ o ++ drop (length o) before)

module _ {X : Type 0} (whole rest : X → Entries) where
  -- calls one after another, with their answers and the bytes that they write
  abbrev pub DoesAll : Line X → List Call → List (Result Answer Refusal) → List ℕ → Line X → Type 0
  DoesAll l [] [] bs m = (bs ≡ []) × (m ≡ l)
  DoesAll l [] (x ∷ xs) bs m = ⊥
  DoesAll l (c ∷ cs) [] bs m = ⊥
  DoesAll l (c ∷ cs) (x ∷ xs) bs m = (k : Line X) × (d : Does whole rest l c x k) × (more : List ℕ)
      × (bs ≡ written d.effect ++ more) × DoesAll k cs xs more m

  -- the command c makes its calls at the line l, which lends n bytes, prints o and leaves the line m
  abbrev pub Gives : Timers → ℕ → Line X → Command → List ℕ → Line X → Type 0
  Gives t n l c o m = (xs : List (Result Answer Refusal)) × (more : List ℕ)
      × DoesAll l (calls_of t n (state_of l) c) xs more m × (o ≡ last_line xs ++ more)

  -- and what is printed stands in the memory
  abbrev pub Given : Timers → Line X → Command → List ℕ → ℕ → Line X → List ℕ → Type 0
  Given t l c before n m after = (o : List ℕ) × Gives t (length before) l c o m × Printed o before n after

  -- the bytes bs, given to the line l, print the line o and leave the line m: an unreadable command prints
  -- its number and leaves the line as it was; any other makes its calls
  abbrev pub Prints : Timers → ℕ → Line X → List ℕ → List ℕ → Line X → Type 0
  Prints t n l bs o m = (((c : Command) → Writes bs c → ⊥) × (o ≡ no_line unreadable_number) × (m ≡ l))
      ⊎ ((c : Command) × Writes bs c × Gives t n l c o m)

  -- memory of less than 85 bytes is refused, and then line and memory stay; else what is printed stands in
  -- the memory
  abbrev pub Commanded : Timers → Line X → List ℕ → List ℕ → Result ℕ Refusal → Line X → List ℕ → Type 0
  Commanded t l bs before (Err why) m after = (length before < 85) × (why ≡ Memory) × (m ≡ l) ×
      (after ≡ before)
  Commanded t l bs before (Ok n) m after = (85 ≤ length before)
      × ((o : List ℕ) × Prints t (length before) l bs o m × Printed o before n after)
