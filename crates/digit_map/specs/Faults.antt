-- The causes of faults and their numbers. Assumes nothing.
use Rattle.std.specs.Prelude.{ℕ}
use Rattle.digit_map.specs.declared.fault.Cause.{Cause}
use Rattle.digit_map.specs.declared.fault.Cause.TheVariants.{Length, Head, Byte, Set, Affix, Keyless, Excess}
use Rattle.digit_map.specs.declared.fault.Fault.{Fault}

abbrev pub cause_number : Cause → ℕ
cause_number Length = 1
cause_number Head = 2
cause_number Byte = 3
cause_number Set = 4
cause_number Affix = 5
cause_number Keyless = 6
cause_number Excess = 7

abbrev pub fault : Cause → ℕ → ℕ → Fault
fault c o n = record { cause = c; offset = o; alternative = n }

-- a fault of the length or the head has no alternative; any other has the one being read
abbrev pub fault_in_lem : ℕ → Cause → ℕ → Fault
fault_in_lem n Length o = fault Length o 0
fault_in_lem n Head o = fault Head o 0
fault_in_lem n Byte o = fault Byte o n
fault_in_lem n Set o = fault Set o n
fault_in_lem n Affix o = fault Affix o n
fault_in_lem n Keyless o = fault Keyless o n
fault_in_lem n Excess o = fault Excess o n
