-- What has ended in one of the parts has ended in the pair. Assumes nothing.
use Rattle.keypad.specs.Entries.{Entries}
use Rattle.keypad.specs.Sets.{Ended}
use Rattle.plans.specs.Pairs.{Live}
use Rattle.plans.specs.Questions.{ends}
use Rattle.plans.proofs.Pairs.{tells_first, tells_second}
use Rattle.plans.proofs.pair.PairPlanPlan.satisfied.Goals as goal

pub returns-then-satisfied : goal.returns-then-satisfied
returns-then-satisfied g c =
    let p = c.args.self.now in
    let a : Entries = Live p.first.live (g.P.Plan.rest p.first.plan) in
    let b : Entries = Live p.second.live (g.Q.Plan.rest p.second.plan) in
    tells_first Ended ends a b _ c.if-satisfied.true c.satisfied.ensures

pub returns-else-satisfied : goal.returns-else-satisfied
returns-else-satisfied g c =
    let p = c.args.self.now in
    let a : Entries = Live p.first.live (g.P.Plan.rest p.first.plan) in
    let b : Entries = Live p.second.live (g.Q.Plan.rest p.second.plan) in
    tells_second Ended ends a b _ _ c.if-satisfied.false c.satisfied.ensures c.satisfied-else-satisfied.ensures
