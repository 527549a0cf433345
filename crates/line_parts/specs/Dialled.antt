-- The symbols of a dial string. Assumes nothing.
use Rattle.std.specs.Prelude.{List, Some, None, Option}
use Rattle.keypad.specs.declared.key.Symbol.{Symbol}
use Rattle.keypad.specs.Rows.{listed}
use Rattle.line_parts.specs.declared.dial.Dial.{Dial}

abbrev pub dialled : Dial → List Symbol
dialled d = listed d.symbols

-- the symbols of a dial string that may be missing
abbrev pub dialled_in : Option Dial → Option (List Symbol)
dialled_in None = None
dialled_in (Some d) = Some (dialled d)
