-- The bounds of the settings. Assumes nothing.
use Rattle.std.specs.Prelude.{◌≤◌}
use Rattle.keypad.specs.declared.timers.Timers.{Timers}

-- T is at most 99 seconds; S and L are from 1 to 99 seconds, and Z from 1 to 99 tenths of a second
pub record Lawful (t : Timers) : Type 0 where
  pub start : t.start ≤ 99
  pub short : 1 ≤ t.short
  pub short_most : t.short ≤ 99
  pub long : 1 ≤ t.long
  pub long_most : t.long ≤ 99
  pub hold : 1 ≤ t.hold
  pub hold_most : t.hold ≤ 99
