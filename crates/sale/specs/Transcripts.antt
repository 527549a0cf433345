-- What a list of commands prints, by the record of keys. Assumes nothing.
use Rattle.std.specs.Prelude.{◌≡◌, ℕ, ◌⊎◌, List, [], ◌∷◌, ◌++◌, Result}
use Rattle.keypad.specs.declared.timers.Timers.{Timers}
use Rattle.keypad.specs.Entries.{Entries}
use Rattle.key_record.specs.declared.answer.Answer.{Answer}
use Rattle.key_record.specs.declared.call.Call.{Call}
use Rattle.key_record.specs.declared.refusal.Refusal.{Refusal}
use Rattle.key_record.specs.Agreement.{joined}
use Rattle.key_record.specs.Effects.{Effect, Replies}
use Rattle.key_record.specs.Record.{Kept, note, remaining}
use Rattle.key_record.specs.Rules.{Allows}
use Rattle.commands.specs.declared.command.Command.{Command}
use Rattle.commands.specs.Told.{no_line, unreadable_number}
use Rattle.commands.specs.Written.{Writes}
use Rattle.sale.specs.Commands.{calls_of, last_line}

-- one call, its answer and the record after it
abbrev pub Takes : Entries → Kept → Call → Result Answer Refusal → Kept → Type 0
Takes w r c x n = (f : Effect) × Allows r.state w (remaining w r) c f × (n ≡ note r f)
    × Replies (remaining w n) n.state f x

-- calls in order, with their answers
abbrev pub TakesAll : Entries → Kept → List Call → List (Result Answer Refusal) → Kept → Type 0
TakesAll w r [] [] n = n ≡ r
TakesAll w r [] (x ∷ xs) n = ⊥
TakesAll w r (c ∷ cs) [] n = ⊥
TakesAll w r (c ∷ cs) (x ∷ xs) n = (m : Kept) × Takes w r c x m × TakesAll w m cs xs n

-- the bytes bs print o: the number of an unreadable command, or the last answer's line and the report lines
-- written
abbrev pub Orders : Entries → Timers → Kept → List ℕ → List ℕ → Kept → Type 0
Orders w t r bs o n = (((c : Command) → Writes bs c → ⊥) × (o ≡ no_line unreadable_number) × (n ≡ r))
    ⊎ ((c : Command) × Writes bs c × (xs : List (Result Answer Refusal)) × (ls : List (List ℕ))
    × TakesAll w r (calls_of t 85 r.state c) xs n × (n.lines ≡ r.lines ++ ls) ×
    (o ≡ last_line xs ++ joined ls))

-- commands in order, one to a line, print one line each
abbrev pub Transcript : Entries → Timers → Kept → List (List ℕ) → List ℕ → Type 0
Transcript w t r [] out = out ≡ []
Transcript w t r (bs ∷ bss) out = (o : List ℕ) × (n : Kept) × Orders w t r bs o n
    × ((more : List ℕ) × (out ≡ o ++ more) × Transcript w t n bss more)
