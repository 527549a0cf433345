-- The places before the one at hand are settled. Assumes nothing.
use Rattle.digit_map.specs.Maps.{places}
use Rattle.map_plan.proofs.Upto.{Upto}
use Rattle.map_plan.proofs.live.live_after.Given as goal

abbrev pub invariant-loop-place : goal.invariant-loop-place
invariant-loop-place l = Upto (places l.plan.map) l.plan.live l.symbol l.place l.live l.reached
