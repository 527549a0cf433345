-- No mark is ever in force. Assumes nothing.
use Rattle.std.proofs.Common.{vec_items}
use Rattle.plans.specs.LotsLemmas.{timing_left}
use Rattle.plans.proofs.lot.plan.LotPlanPlan.timing.Goals as goal

pub returns : goal.returns
returns c = let p = c.args.self.now in timing_left (vec_items p.lots) p.width p.taken p.prefix
