-- A live place takes the symbol exactly when some entry starts with it. Assumes nothing.
use Rattle.std.proofs.Common.{rules}
use Rattle.map_plan.specs.Asking as ask
use Rattle.map_plan.proofs.Answers.{tells_starts}
use Rattle.map_plan.proofs.asked.MapPlanPlan.open.Goals as goal

pub returns : goal.returns
returns c =
    tells_starts c.args.self.now c.any_live.result c.args.symbol
    (c.any_live.ensures (ask.takes_symbol c.args.symbol) (λ n r h. search rules))
