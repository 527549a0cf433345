-- A lot has no steps left exactly where its digits are all pressed. Assumes nothing.
use Rattle.std.proofs.Common.{false, vec_items}
use Rattle.plans.proofs.Tellings.{tells}
use Rattle.plans.specs.LotsLemmas.{ended_sound, settled_complete}
use Rattle.plans.proofs.lot.plan.LotPlanPlan.satisfied.Goals as goal

pub returns : goal.returns
returns c = let p = c.args.self.now in
    tells c.complete.result (λ x. (x.0, false, x.1))
    (λ x. settled_complete (vec_items p.lots) p.width p.taken p.prefix
    (ended_sound (vec_items p.lots) p.width p.taken p.prefix p.within x))
    c.complete.ensures
