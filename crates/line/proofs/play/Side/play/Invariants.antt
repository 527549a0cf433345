-- The loop of a list of calls. Assumes nothing.
use Rattle.std.proofs.Common.{◌-◌, length, take}
use Rattle.line.specs.Rooms.{Room}
use Rattle.line.proofs.Plays.{Going}
use Rattle.line.proofs.play.Side.play.Given as goal

-- the log is the record's after the calls played so far, and has room for those left
abbrev pub invariant-loop-call : goal.invariant-loop-call
invariant-loop-call g l = record {
  going : Going g.P.Plan.whole g.P.Plan.rest (g.P.Plan.whole l.initial.played.line.plan) l.number
      (take l.call-index l.call-items) l.played;
  room : Room l.played.log (length l.call-items - l.call-index);
}
