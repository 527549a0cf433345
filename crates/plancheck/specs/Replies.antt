-- What is printed of a text that is to be kept, and what is kept then. Assumes nothing.
use Rattle.std.specs.Prelude.{◌≡◌, ℕ, ◌<◌, ◌≤◌, List, [], ◌∷◌, Some, Ok, Err, string_bytes, Option, Result, String}
use Rattle.std.specs.List.{AllZip}
use Rattle.digit_map.specs.declared.fault.Fault.{Fault}
use Rattle.digit_map.specs.declared.map.Map.{Map}
use Rattle.digit_map.specs.Derives.{ReadExactly}
use Rattle.fault_line.specs.Told.{told}
use Rattle.plancheck.specs.declared.kept.Kept.{Kept}
use Rattle.plancheck.specs.Letters.{CodeLetter}
use Rattle.plancheck.specs.Numbers.{Numbers}
use Rattle.plancheck.specs.Stores.{Store, store_of, with_map, with_lots, with_code}

-- a question mark and a line feed
abbrev pub question : List ℕ
question = 63 ∷ 10 ∷ []

-- the map that is read, or the one before where the text is refused
abbrev pub kept_by : Option Map → Result Map Fault → Option Map
kept_by before (Ok m) = Some m
kept_by before (Err f) = before

-- a text is read as a map has to be, and its map is kept
pub record MapKept (text : List ℕ) (before after : Option Map) : Type 0 where
  pub result : Result Map Fault
  pub read : ReadExactly text result
  pub keeps : after ≡ kept_by before result

-- a map is kept in silence; of a text that is none its fault is printed, and what is kept stays
pub data MapLine (k : Store) (text : List ℕ) : List ℕ → Store → Type 0 where
  admitted : {m : Map} → ReadExactly text (Ok m) → MapLine k text [] (with_map k m)
  refused : {f : Fault} → ReadExactly text (Err f) → MapLine k text (told f) k

-- a width of 8 bits and the numbers behind it are kept in silence; of another text a question mark is
-- printed, and what is kept stays
pub data LotsLine (k : Store) (text : List ℕ) : List ℕ → Store → Type 0 where
  listed : (w : ℕ) (ns : List ℕ) → Numbers text (w ∷ ns) → w < 256 → LotsLine k text [] (with_lots k w ns)
  wide : (w : ℕ) (ns : List ℕ) → Numbers text (w ∷ ns) → 256 ≤ w → LotsLine k text question k
  unread : ((ns : List ℕ) → Numbers text ns → ⊥) → LotsLine k text question k

-- a code is kept in silence, whatever its letters are
pub data CodeLine (k : Store) (text : List ℕ) : List ℕ → Store → Type 0 where
  coded : (ns : List ℕ) → AllZip CodeLetter text ns → CodeLine k text [] (with_code k ns)

module _ {Z Y : Type 0} where
  -- a line is answered as it has to be; where memory lacks, what is kept stays
  abbrev pub Gives : (List ℕ → Store → Type 0) → Kept → Result (String Z) Y → Kept → Type 0
  Gives P before (Ok s) after = P (string_bytes s) (store_of after)
  Gives P before (Err e) after = after ≡ before
