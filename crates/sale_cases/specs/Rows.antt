-- The cases of a sale, one row to a case. Assumes nothing.
use Rattle.std.specs.Prelude.{ℕ, List, [], ◌∷◌, ◌++◌, map, codes}
use Prim.Native.String.{String}
use Rattle.digit_map.specs.declared.fault.Cause.TheVariants as cause
use Rattle.digit_map.specs.declared.fault.Fault.{Fault}
use Rattle.digit_map.specs.Faults.{fault}
use Rattle.key_record.specs.declared.call.Call.{Call}
use Rattle.key_record.specs.declared.call.Call.TheVariants.{Key, Expire}
use Rattle.key_record.specs.declared.settings.Disposition.{Disposition}
use Rattle.key_record.specs.declared.settings.Disposition.TheVariants.{Keep, Drop}
use Rattle.key_record.specs.declared.settings.Procedure.{Procedure}
use Rattle.key_record.specs.declared.settings.Procedure.TheVariants.{Base, Shortest}
use Rattle.key_record.specs.declared.timer.Timer.{Timer}
use Rattle.key_record.specs.declared.timer.Timer.TheVariants as timer

-- what a row expects: the fault of its text, or that the last call leaves the line waiting for a timer's
-- seconds, or that it brings a report with a line
pub data Expected : Type 0 where
  faulty : Fault → Expected
  waits : Timer → ℕ → Expected
  reports : List ℕ → Expected

-- a map's text, what the line is armed with besides the map's timers, the calls behind the arming, and what
-- is expected
pub record Row : Type 0 where
  pub text : List ℕ
  pub procedure : Procedure
  pub disposition : Disposition
  pub calls : List Call
  pub expected : Expected

-- a key held for so many tenths of a second
abbrev pub held : ℕ → ℕ → Call
held n k = Key (record { key = k; tenths = n })

-- keys of one tenth of a second each
abbrev pub taps : List ℕ → List Call
taps ks = map (held 1) ks

-- the line of a report, given without its line feed
abbrev pub says : String → Expected
says s = reports (codes s ++ 10 ∷ [])

abbrev pub sale_text : List ℕ
sale_text = codes "T:20,S:4,(xxxx|xxxxExxF|E0S|E00|ZF)"

abbrev pub row : List ℕ → Procedure → Disposition → List Call → Expected → Row
row t p d cs e = record { text = t; procedure = p; disposition = d; calls = cs; expected = e }

-- the sale's map in the base procedure and in shortest match, a key that fits nowhere kept; a text that is
-- no map
abbrev pub base : List Call → Expected → Row
base cs e = row sale_text Base Keep cs e

abbrev pub shortest : List Call → Expected → Row
shortest cs e = row sale_text Shortest Keep cs e

abbrev pub refused : String → Fault → Row
refused s f = row (codes s) Base Keep [] (faulty f)

-- the keys A, E and F are 10, 14 and 15
abbrev pub sale_rows : List Row
sale_rows =
    base (taps (1 ∷ 2 ∷ 0 ∷ 4 ∷ [])) (waits timer.Short 4)
    ∷ base (taps (1 ∷ 2 ∷ 0 ∷ 4 ∷ []) ++ Expire timer.Short ∷ []) (says "ds=1204S,meth=FM")
    ∷ base (taps (1 ∷ 2 ∷ 0 ∷ 4 ∷ 5 ∷ [])) (says "ds=1204,meth=FM,extra=5")
    ∷ row sale_text Base Drop (taps (1 ∷ 2 ∷ 0 ∷ 4 ∷ 5 ∷ [])) (says "ds=1204,meth=FM,extra=5")
    ∷ base (taps (1 ∷ 2 ∷ 0 ∷ 4 ∷ 14 ∷ 7 ∷ 5 ∷ 15 ∷ [])) (says "ds=1204E75F,meth=UM")
    ∷ base (held 11 15 ∷ []) (says "ds=ZF,meth=UM")
    ∷ base (held 10 15 ∷ []) (says "ds=,meth=PM,extra=F")
    ∷ base (held 11 10 ∷ []) (says "ds=,meth=PM,extra=ZA")
    ∷ shortest (taps (1 ∷ 2 ∷ 0 ∷ 4 ∷ [])) (says "ds=1204,meth=FM")
    ∷ shortest (taps (14 ∷ 0 ∷ [])) (waits timer.Short 4)
    ∷ shortest (taps (14 ∷ 0 ∷ 5 ∷ [])) (says "ds=E0,meth=PM,extra=5")
    ∷ refused "(1|)" (fault cause.Byte 3 2)
    ∷ refused "x." (fault cause.Keyless 0 1)
    ∷ refused "S:4,T:9,1" (fault cause.Head 4 0)
    ∷ []
