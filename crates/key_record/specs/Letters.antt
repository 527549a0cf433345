-- The report line. Assumes nothing.
use Rattle.std.specs.Prelude.{ℕ, List, [], ◌∷◌, ◌++◌, codes}
use Rattle.std.specs.List.{flat_map}
use Rattle.keypad.specs.declared.key.Symbol.{Symbol}
use Rattle.keypad.specs.Letters.{letter_of, symbol_name}
use Rattle.key_record.specs.declared.ending.Ending.{Ending}
use Rattle.key_record.specs.declared.ending.Method.{Method}
use Rattle.key_record.specs.declared.ending.Method.TheVariants.{Unambiguous, Full, Partial}
use Rattle.key_record.specs.declared.ending.Trigger.{Trigger}
use Rattle.key_record.specs.declared.ending.Trigger.TheVariants.{Press, Extra, Expiry}
use Rattle.key_record.specs.declared.timer.Timer.{Timer}
use Rattle.key_record.specs.declared.timer.Timer.TheVariants as timer

-- the letter of a key
abbrev pub key_letter_lem : ℕ → ℕ
key_letter_lem = letter_of

-- a symbol: its key, with a Z in front if it is long
abbrev pub symbol_text : Symbol → List ℕ
symbol_text = symbol_name

abbrev pub dial_text : List Symbol → List ℕ
dial_text = flat_map symbol_text

-- T, S or L
abbrev pub timer_letter_lem : Timer → ℕ
timer_letter_lem timer.Start = 84
timer_letter_lem timer.Short = 83
timer_letter_lem timer.Long = 76

-- the letter of the timer that brought a report stands behind the dial string
abbrev pub expiry_text : Trigger → List ℕ
expiry_text Press = []
expiry_text (Extra y) = []
expiry_text (Expiry t) = timer_letter_lem t ∷ []

abbrev pub method_text : Method → List ℕ
method_text Unambiguous = codes "UM"
method_text Full = codes "FM"
method_text Partial = codes "PM"

-- the key that brought a report by fitting nowhere
abbrev pub extra_text : Trigger → List ℕ
extra_text Press = []
extra_text (Extra y) = codes ",extra=" ++ symbol_text y
extra_text (Expiry t) = []

-- as `ds=1204S,meth=FM` or `ds=1204,meth=FM,extra=5`, with a line feed
abbrev pub report_line : List Symbol → Ending → List ℕ
report_line d e = codes "ds=" ++
    (dial_text d ++ (expiry_text e.trigger ++ (codes ",meth=" ++ (method_text e.method
    ++ (extra_text e.trigger ++ 10 ∷ [])))))
