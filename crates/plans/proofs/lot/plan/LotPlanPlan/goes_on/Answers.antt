-- There is more where digits are left and a listed number begins so. Assumes nothing.
use Rattle.std.proofs.Common.{vec_items}
use Rattle.plans.proofs.Tellings.{tells}
use Rattle.plans.specs.LotsLemmas.{goes_on_sound, goes_on_complete}
use Rattle.plans.proofs.lot.plan.LotPlanPlan.goes_on.Goals as goal

pub returns-then-self : goal.returns-then-self
returns-then-self c = let p = c.args.self.now in
    tells c.any_begins.result
    (λ b. goes_on_complete (vec_items p.lots) p.width p.taken p.prefix (c.if-self.true, b))
    (λ x. (goes_on_sound (vec_items p.lots) p.width p.taken p.prefix x).1)
    c.any_begins.ensures
