-- What opens: the next key of the code, or behind it what opens the part. Assumes nothing.
use Rattle.std.proofs.Common.{◌+◌, drop}
use Rattle.keypad.specs.Rows.{listed}
use Rattle.keypad.specs.Sets.{Starts}
use Rattle.plans.specs.Questions.{starts}
use Rattle.plans.specs.Behind.{starts_behind, tells_behind}
use Rattle.plans.proofs.coded.CodedPlanPlan.open.Goals as goal

pub returns-in-Some : goal.returns-in-Some
returns-in-Some g c =
    let p = c.args.self.now in
    rw c.in-Some.ensures
    (starts_behind c.in-Some.key (drop (p.at + 1) (listed p.keys)) (g.P.Plan.rest p.part)
    c.args.symbol _ c.takes.ensures)

pub returns-in-None : goal.returns-in-None
returns-in-None g c =
    tells_behind (λ x. Starts x c.args.symbol) (starts c.args.symbol) _
    (g.P.Plan.rest c.args.self.now.part) _ c.in-None.ensures c.open.ensures
