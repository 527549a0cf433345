-- The open entry of a line. Assumes nothing.
use Rattle.std.specs.Prelude.{List, Some, None, Option}
use Rattle.keypad.specs.declared.key.Symbol.{Symbol}
use Rattle.key_record.specs.declared.ending.Phase.{Phase}
use Rattle.key_record.specs.declared.ending.Phase.TheVariants.{Idle, Open, Done, Claimed}
use Rattle.key_record.specs.States.{State}

abbrev pub dial_in : Phase → List Symbol → Option (List Symbol)
dial_in Idle d = None
dial_in Open d = Some d
dial_in (Done e) d = None
dial_in (Claimed e) d = None

-- the dial string while the line is open
abbrev pub open_dial : State → Option (List Symbol)
open_dial st = dial_in st.phase st.dial
