-- The timers that hold where a map sets none. Assumes nothing.
use Rattle.keypad.specs.declared.timers.Timers.{Timers}

-- T 9, S 5 and L 16 seconds, Z 10 tenths of a second
abbrev pub standard : Timers
standard = record { start = 9; short = 5; long = 16; hold = 10 }
