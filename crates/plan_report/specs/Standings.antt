-- How a plan stands. Assumes nothing.
use Rattle.keypad.specs.Entries.{Entries}
use Rattle.keypad.specs.Sets.{Ended, Settled, GoesOn}
use Rattle.keypad.specs.Answers.{Tells, Timing}
use Rattle.plan_report.specs.declared.standing.Standing.{Standing}

-- the answers are those of the entries that are left
pub record Stands (a : Entries) (s : Standing) : Type 0 where
  pub ended : Tells (Ended a) s.ended
  pub settled : Tells (Settled a) s.settled
  pub going : Tells (GoesOn a) s.going
  pub mark : Timing a s.mark
