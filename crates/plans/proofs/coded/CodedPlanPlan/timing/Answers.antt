-- The keys of the code are unmarked; behind it the part tells. Assumes nothing.
use Rattle.keypad.specs.Entries.{Entries}
use Rattle.plans.specs.Questions.{timing_same}
use Rattle.plans.specs.Behind.{spent}
use Rattle.plans.proofs.coded.CodedPlanPlan.timing.Goals as goal

pub returns-in-None : goal.returns-in-None
returns-in-None g c =
    let a : Entries = g.P.Plan.rest c.args.self.now.part in
    timing_same a _ _ (spent _ a c.in-None.ensures) c.timing.ensures
