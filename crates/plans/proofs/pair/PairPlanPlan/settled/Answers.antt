-- What is settled in one of the parts is settled in the pair. Assumes nothing.
use Rattle.keypad.specs.Entries.{Entries}
use Rattle.keypad.specs.Sets.{Settled}
use Rattle.plans.specs.Pairs.{Live}
use Rattle.plans.specs.Questions.{settles}
use Rattle.plans.proofs.Pairs.{tells_first, tells_second}
use Rattle.plans.proofs.pair.PairPlanPlan.settled.Goals as goal

pub returns-then-settled : goal.returns-then-settled
returns-then-settled g c =
    let p = c.args.self.now in
    let a : Entries = Live p.first.live (g.P.Plan.rest p.first.plan) in
    let b : Entries = Live p.second.live (g.Q.Plan.rest p.second.plan) in
    tells_first Settled settles a b _ c.if-settled.true c.settled.ensures

pub returns-else-settled : goal.returns-else-settled
returns-else-settled g c =
    let p = c.args.self.now in
    let a : Entries = Live p.first.live (g.P.Plan.rest p.first.plan) in
    let b : Entries = Live p.second.live (g.Q.Plan.rest p.second.plan) in
    tells_second Settled settles a b _ _ c.if-settled.false c.settled.ensures c.settled-else-settled.ensures
