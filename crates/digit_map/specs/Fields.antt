-- The inside of a head field, byte by byte. Assumes nothing.
use Rattle.std.specs.Prelude.{ℕ, ◌+◌, ◌-◌, ◌*◌, ◌<◌, Bool, true, cond, ◌&&◌, ◌==◌, nat_lt, Some, None, Option}
use Rattle.keypad.specs.declared.timers.Timers.{Timers}
use Rattle.digit_map.specs.declared.sign.Field.{Field}
use Rattle.digit_map.specs.declared.sign.Field.TheVariants.{Start, Short, Long, Hold}
use Rattle.digit_map.specs.declared.head.Digits.{Digits}
use Rattle.digit_map.specs.declared.head.Digits.TheVariants.{Letter, Colon, One, Two}
use Rattle.digit_map.specs.declared.head.FieldTurn.{FieldTurn}
use Rattle.digit_map.specs.declared.head.FieldTurn.TheVariants.{On, Done}
use Rattle.digit_map.specs.Bytes.{digit}

-- the order of the fields
abbrev pub rank : Field → ℕ
rank Start = 0
rank Short = 1
rank Long = 2
rank Hold = 3

-- the least place in that order that a field behind the last one has
abbrev pub least_behind : Option Field → ℕ
least_behind None = 0
least_behind (Some f) = rank f + 1

-- only T may be 0
abbrev pub fits : Field → ℕ → Bool
fits Start v = true
fits Short v = nat_lt 0 v
fits Long v = nat_lt 0 v
fits Hold v = nat_lt 0 v

-- the timers with one set
abbrev pub timed : Timers → Field → ℕ → Timers
timed t Start v = record { start = v; short = t.short; long = t.long; hold = t.hold }
timed t Short v = record { start = t.start; short = v; long = t.long; hold = t.hold }
timed t Long v = record { start = t.start; short = t.short; long = v; hold = t.hold }
timed t Hold v = record { start = t.start; short = t.short; long = t.long; hold = v }

-- a byte behind a field's letter: the colon, one or two digits, the comma
abbrev pub field_turn : Field → Digits → ℕ → Option FieldTurn
field_turn f Letter b = cond (b == 58) (Some (On Colon)) None
field_turn f Colon b = cond (digit b) (Some (On (One (b - 48)))) None
field_turn f (One d) b =
    cond (digit b && fits f (10 * d + (b - 48))) (Some (On (Two (10 * d + (b - 48)))))
    (cond (b == 44 && fits f d) (Some (Done d)) None)
field_turn f (Two v) b = cond (b == 44) (Some (Done v)) None

-- the digits read so far make a number below 100
abbrev pub SoundDigits : Digits → Type 0
SoundDigits Letter = Unit {0}
SoundDigits Colon = Unit {0}
SoundDigits (One d) = d < 10
SoundDigits (Two v) = v < 100

abbrev pub SoundField : Option FieldTurn → Type 0
SoundField (Some (On d)) = SoundDigits d
SoundField (Some (Done v)) = v < 100
SoundField None = Unit {0}
