-- What is told of a map's text. Assumes nothing.
use Rattle.std.specs.Prelude.{◌≡◌, ℕ, List, [], ◌∷◌, ◌++◌, take, Ok, Err, Result}
use Rattle.digit_map.specs.declared.fault.Fault.{Fault}
use Rattle.digit_map.specs.declared.map.Map.{Map}
use Rattle.digit_map.specs.Maps.{places, timers_of}
use Rattle.digit_map.specs.Nodes.{count_positions, count_ends}
use Rattle.digit_map.specs.Derives.{ReadExactly}
use Rattle.fault_line.specs.Told.{told}
use Rattle.map_report.specs.Escapes.{excerpt, caret}
use Rattle.map_report.specs.Phrases.{phrase, feed, summary}

-- the fault's line, its cause in words, the text, and a caret below the faulty byte
abbrev pub refused : List ℕ → Fault → List ℕ
refused text f =
    told f ++ phrase f.cause ++ feed ++ excerpt text ++ feed ++ caret (take f.offset text) ++ feed

-- the map's timers and counts, and the text
abbrev pub admitted : List ℕ → Map → List ℕ
admitted text m =
    summary (timers_of m) (count_ends (places m)) (count_positions (places m)) ++ excerpt text ++ feed

-- what is told when a text has been read
abbrev pub outcome : List ℕ → Result Map Fault → List ℕ
outcome text (Ok m) = admitted text m
outcome text (Err f) = refused text f

-- bs is what is told of a text by the map or the fault that reading it gives
pub record Reported (text bs : List ℕ) : Type 0 where
  pub result : Result Map Fault
  pub read : ReadExactly text result
  pub tells : bs ≡ outcome text result

-- bs is what is told of each text in turn
abbrev pub AllReported : List (List ℕ) → List ℕ → Type 0
AllReported [] bs = bs ≡ []
AllReported (t ∷ ts) bs = (x : List ℕ) × (y : List ℕ) × Reported t x × AllReported ts y × (bs ≡ x ++ y)
