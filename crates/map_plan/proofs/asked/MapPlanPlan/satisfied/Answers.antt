-- A live place is an end exactly when some entry has no steps left. Assumes nothing.
use Rattle.std.proofs.Common.{rules}
use Rattle.map_plan.specs.Asking as ask
use Rattle.map_plan.proofs.Answers.{tells_ended}
use Rattle.map_plan.proofs.asked.MapPlanPlan.satisfied.Goals as goal

pub returns : goal.returns
returns c =
    tells_ended c.args.self.now c.any_live.result (c.any_live.ensures ask.ends (λ n r h. search rules))
