-- Which bytes write which command. Assumes nothing.
use Rattle.std.specs.Prelude.{◌≡◌, ℕ, ◌+◌, ◌/◌, ◌%◌, ◌<◌, List, [], ◌∷◌, ◌++◌, Some, None, codes, Option}
use Rattle.key_record.specs.declared.settings.Disposition.{Disposition}
use Rattle.key_record.specs.declared.settings.Disposition.TheVariants.{Keep, Drop}
use Rattle.key_record.specs.declared.settings.Procedure.{Procedure}
use Rattle.key_record.specs.declared.settings.Procedure.TheVariants.{Base, Shortest}
use Rattle.key_record.specs.declared.timer.Timer.{Timer}
use Rattle.key_record.specs.Letters.{key_letter_lem, timer_letter_lem}
use Rattle.commands.specs.declared.command.Command.{Command}
use Rattle.commands.specs.declared.command.Command.TheVariants.{Arm, Key, Expire, Close}

-- something of which P holds, or none where it holds of nothing
abbrev pub Finds : {A : Type 0} → (A → Type 0) → Option A → Type 0
Finds P (Some x) = P x
Finds {A = A} P None = (x : A) → P x → ⊥

-- b or s
abbrev pub procedure_letter : Procedure → ℕ
procedure_letter Base = 98
procedure_letter Shortest = 115

-- k or d
abbrev pub disposition_letter : Disposition → ℕ
disposition_letter Keep = 107
disposition_letter Drop = 100

-- b is the digit of the number n
abbrev pub Digit : ℕ → ℕ → Type 0
Digit b n = (n < 10) × (b ≡ 48 + n)

-- a number below 100 as two digits
abbrev pub two_digits : ℕ → List ℕ
two_digits n = (48 + n / 10) ∷ (48 + n % 10) ∷ []

-- bs writes the command c; a key without a duration was held for one tenth
pub data Writes : List ℕ → Command → Type 0 where
  arm : (p : Procedure) (d : Disposition) →
      Writes (codes "a" ++ procedure_letter p ∷ disposition_letter d ∷ []) (Arm p d)
  tap : (k : ℕ) → k < 16 → Writes (codes "k" ++ key_letter_lem k ∷ []) (Key (record { key = k; tenths = 1 }))
  hold : (k t : ℕ) → k < 16 → t < 100 →
      Writes (codes "k" ++ key_letter_lem k ∷ two_digits t) (Key (record { key = k; tenths = t }))
  expire : (t : Timer) → Writes (codes "e" ++ timer_letter_lem t ∷ []) (Expire t)
  close : Writes (codes "c") Close
