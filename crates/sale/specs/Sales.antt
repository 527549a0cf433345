-- A whole sale. Assumes nothing.
use Rattle.std.specs.Prelude.{◌≡◌, ℕ, List, [], ◌∷◌, Ok, Err, Result}
use Rattle.digit_map.specs.declared.fault.Fault.{Fault}
use Rattle.digit_map.specs.declared.map.Map.{Map}
use Rattle.digit_map.specs.Derives.{ReadExactly}
use Rattle.digit_map.specs.Maps.{places, timers_of}
use Rattle.digit_map.specs.Meaning.{MapEntry}
use Rattle.fault_line.specs.Told.{told}
use Rattle.map_report.specs.Lines.{lines}
use Rattle.key_record.specs.Record.{start}
use Rattle.sale.specs.Transcripts.{Transcript}

-- a map: its commands print their lines, on a line with the number 1, the map's entries and its timers; a
-- fault: it is told, and nothing more
abbrev pub Ensues : Result Map Fault → List (List ℕ) → List ℕ → Type 0
Ensues (Ok m) bss out = Transcript (MapEntry (places m)) (timers_of m) (start 1) bss out
Ensues (Err f) bss out = out ≡ told f

-- a map's text prints what its commands do, or its fault
abbrev pub SoldBy : List ℕ → List (List ℕ) → List ℕ → Type 0
SoldBy text bss out = (r : Result Map Fault) × ReadExactly text r × Ensues r bss out

-- of the lines of an input, the first is a map's text, and the others are commands
abbrev pub OfLines : List (List ℕ) → List ℕ → Type 0
OfLines [] out = SoldBy [] [] out
OfLines (text ∷ bss) out = SoldBy text bss out

abbrev pub Sold : List ℕ → List ℕ → Type 0
Sold input out = OfLines (lines input) out
