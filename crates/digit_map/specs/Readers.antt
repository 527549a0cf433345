-- A part of a text as it is read. Assumes nothing.
use Rattle.std.specs.Prelude.{◌≡◌, Ok, Err, Result}
use Rattle.digit_map.specs.declared.fault.Fault.{Fault}
use Rattle.digit_map.specs.declared.token.Cursor.{Cursor}
use Rattle.digit_map.specs.declared.reader.Reader.{Reader}

-- w stands in the same part as r
pub record SamePart (r w : Reader) : Type 0 where
  pub text : w.text.now ≡ r.text.now
  pub base : w.base ≡ r.base

-- what was read, with the cursor behind it
abbrev pub placed : {A : Type 0} → Result A Fault → Cursor → Result (A × Cursor) Fault
placed (Ok x) c = Ok (x, c)
placed (Err e) c = Err e
