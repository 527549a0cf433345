-- A live place is an end that is not held exactly when some entry is settled. Assumes nothing.
use Rattle.std.proofs.Common.{rules}
use Rattle.map_plan.specs.Asking as ask
use Rattle.map_plan.proofs.Answers.{tells_settled}
use Rattle.map_plan.proofs.asked.MapPlanPlan.settled.Goals as goal

pub returns : goal.returns
returns c =
    tells_settled c.args.self.now c.any_live.result (c.any_live.ensures ask.settles (λ n r h. search rules))
