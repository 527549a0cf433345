-- The bytes of a text, and a text laid into memory. Assumes nothing.
use Rattle.std.specs.Prelude.{◌≡◌, ℕ, ◌<◌, ◌≤◌, Bool, true, false, List, ◌++◌, length, take, drop}
use Rattle.keypad.specs.Rows.{listed}
use Rattle.line_parts.specs.declared.text.Text.{Text}

abbrev pub text_of : Text → List ℕ
text_of t = listed t.bytes

-- the first 85 bytes
abbrev pub cut : List ℕ → List ℕ
cut bs = take 85 bs

-- yes: the text stands at the start of the memory and the bytes behind it are as before; no: it does not fit,
-- and the memory is as before
abbrev pub Laid : List ℕ → List ℕ → Bool → List ℕ → Type 0
Laid t before true after = (length t ≤ length before) × (after ≡ t ++ drop (length t) before)
Laid t before false after = (length before < length t) × (after ≡ before)
