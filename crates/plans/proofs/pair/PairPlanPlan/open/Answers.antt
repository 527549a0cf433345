-- What opens one of the parts opens the pair. Assumes nothing.
use Rattle.keypad.specs.Entries.{Entries}
use Rattle.keypad.specs.Sets.{Starts}
use Rattle.plans.specs.Pairs.{Live}
use Rattle.plans.specs.Questions.{starts}
use Rattle.plans.proofs.Pairs.{tells_first, tells_second}
use Rattle.plans.proofs.pair.PairPlanPlan.open.Goals as goal

pub returns-then-open : goal.returns-then-open
returns-then-open g c =
    let p = c.args.self.now in
    let a : Entries = Live p.first.live (g.P.Plan.rest p.first.plan) in
    let b : Entries = Live p.second.live (g.Q.Plan.rest p.second.plan) in
    tells_first (λ x. Starts x c.args.symbol) (starts c.args.symbol) a b _ c.if-open.true c.open.ensures

pub returns-else-open : goal.returns-else-open
returns-else-open g c =
    let p = c.args.self.now in
    let a : Entries = Live p.first.live (g.P.Plan.rest p.first.plan) in
    let b : Entries = Live p.second.live (g.Q.Plan.rest p.second.plan) in
    tells_second (λ x. Starts x c.args.symbol) (starts c.args.symbol) a b _ _ c.if-open.false c.open.ensures c.open-else-open.ensures
