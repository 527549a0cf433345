-- Within the code each entry goes on; behind it the part tells. Assumes nothing.
use Rattle.std.proofs.Common.{◌+◌, drop}
use Rattle.keypad.specs.Rows.{listed}
use Rattle.keypad.specs.Sets.{GoesOn}
use Rattle.plans.specs.Questions.{goes}
use Rattle.plans.specs.Behind.{goes_behind, tells_behind}
use Rattle.plans.proofs.coded.CodedPlanPlan.goes_on.Goals as goal

pub returns-in-Some : goal.returns-in-Some
returns-in-Some g c =
    let p = c.args.self.now in
    rw c.in-Some.ensures
    (goes_behind c.in-Some.field-0 (drop (p.at + 1) (listed p.keys)) (g.P.Plan.rest p.part) _
    c.admits.ensures)

pub returns-in-None : goal.returns-in-None
returns-in-None g c =
    tells_behind GoesOn goes _ (g.P.Plan.rest c.args.self.now.part) _ c.in-None.ensures c.goes_on.ensures
