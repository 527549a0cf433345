-- Behind the code the part tells what has ended. Assumes nothing.
use Rattle.std.proofs.Common.{◌≡◌, [], drop, arith}
use Rattle.std.proofs.lemmas.Grind.{common_steps}
use Rattle.keypad.specs.Rows.{listed}
use Rattle.keypad.specs.Sets.{Ended}
use Rattle.plans.specs.Questions.{ends}
use Rattle.plans.specs.Behind.{tells_behind}
use Rattle.plans.proofs.coded.CodedPlanPlan.satisfied.Goals as goal

pub returns-then-is_none : goal.returns-then-is_none
returns-then-is_none g c =
    let p = c.args.self.now in
    let keyed : drop p.at (listed p.keys) ≡ [] = grind (arith, common_steps) in
    tells_behind Ended ends _ (g.P.Plan.rest p.part) _ keyed c.satisfied.ensures
