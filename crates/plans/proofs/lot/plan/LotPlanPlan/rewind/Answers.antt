-- With no digit pressed all remain. Assumes nothing.
use Rattle.std.proofs.Common.{vec_items}
use Rattle.plans.specs.LotsLemmas.{rewound_left}
use Rattle.plans.proofs.lot.plan.LotPlanPlan.rewind.Goals as goal

pub returns-clause-rest : goal.returns-clause-rest
returns-clause-rest c = let p = c.args.self.now in rewound_left (vec_items p.lots) p.width
