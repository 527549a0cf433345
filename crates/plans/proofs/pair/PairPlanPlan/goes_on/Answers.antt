-- What goes on in one of the parts goes on in the pair. Assumes nothing.
use Rattle.keypad.specs.Entries.{Entries}
use Rattle.keypad.specs.Sets.{GoesOn}
use Rattle.plans.specs.Pairs.{Live}
use Rattle.plans.specs.Questions.{goes}
use Rattle.plans.proofs.Pairs.{tells_first, tells_second}
use Rattle.plans.proofs.pair.PairPlanPlan.goes_on.Goals as goal

pub returns-then-goes_on : goal.returns-then-goes_on
returns-then-goes_on g c =
    let p = c.args.self.now in
    let a : Entries = Live p.first.live (g.P.Plan.rest p.first.plan) in
    let b : Entries = Live p.second.live (g.Q.Plan.rest p.second.plan) in
    tells_first GoesOn goes a b _ c.if-goes_on.true c.goes_on.ensures

pub returns-else-goes_on : goal.returns-else-goes_on
returns-else-goes_on g c =
    let p = c.args.self.now in
    let a : Entries = Live p.first.live (g.P.Plan.rest p.first.plan) in
    let b : Entries = Live p.second.live (g.Q.Plan.rest p.second.plan) in
    tells_second GoesOn goes a b _ _ c.if-goes_on.false c.goes_on.ensures c.goes_on-else-goes_on.ensures
