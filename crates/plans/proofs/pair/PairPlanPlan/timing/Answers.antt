-- The pair waits under the longer mark of its parts. Assumes nothing.
use Rattle.keypad.specs.Entries.{Entries}
use Rattle.plans.specs.Pairs.{Live}
use Rattle.plans.proofs.Pairs.{timing_longer}
use Rattle.plans.proofs.pair.PairPlanPlan.timing.Goals as goal

pub returns : goal.returns
returns g c =
    let p = c.args.self.now in
    let a : Entries = Live p.first.live (g.P.Plan.rest p.first.plan) in
    let b : Entries = Live p.second.live (g.Q.Plan.rest p.second.plan) in
    timing_longer a b _ _ _ c.longer_mark.ensures c.timing.ensures c.timing-2.ensures
