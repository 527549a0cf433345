-- The plan is that of a copy of the lots. Assumes nothing.
use Rattle.std.proofs.Common.{◌≡◌, ℕ, List, vec_items, subst}
use Rattle.std.specs.List.{each_same}
use Rattle.keypad.specs.Sets.{Same}
use Rattle.plans.specs.LotPlans.{lot_whole}
use Rattle.plans.specs.Lots.{listed}
use Rattle.plancheck.proofs.kept.Kept.lot_plan.Goals as goal

pub returns-clause-admits : goal.returns-clause-admits
returns-clause-admits c =
    let kept = c.args.self.now in
    let copied : vec_items c.in_ok-clone.field-0 ≡ vec_items kept.lots =
    each_same (vec_items kept.lots) (vec_items c.in_ok-clone.field-0) c.in_ok-clone.ensures.cases.0 in
    subst (λ (ns : List ℕ). Same (lot_whole c.in_ok-new.field-0) (listed ns kept.width)) copied
    c.in_ok-new.ensures.admits
