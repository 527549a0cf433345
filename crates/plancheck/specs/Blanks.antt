-- The blanks of a text. Assumes nothing.
use Rattle.std.specs.Prelude.{ℕ, List}
use Rattle.map_report.specs.Parts as parts

-- no blank stands before place n
abbrev pub Clear : List ℕ → ℕ → Type 0
Clear bs n = parts.Clear 32 bs n

-- word stands before the first blank of a text, and rest behind it
abbrev pub Parts : List ℕ → List ℕ → List ℕ → Type 0
Parts text word rest = parts.Parts 32 text word rest
