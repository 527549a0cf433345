-- A live place awaits a position exactly when some entry has steps left. Assumes nothing.
use Rattle.std.proofs.Common.{rules}
use Rattle.map_plan.specs.Asking as ask
use Rattle.map_plan.proofs.Answers.{tells_goes}
use Rattle.map_plan.proofs.asked.MapPlanPlan.goes_on.Goals as goal

pub returns : goal.returns
returns c =
    tells_goes c.args.self.now c.any_live.result (c.any_live.ensures ask.awaits (λ n r h. search rules))
