-- A part that is live waits as its plan does. Assumes nothing.
use Rattle.plans.proofs.pair.PartPlan.timing.Goals as goal

pub returns-then-self : goal.returns-then-self
returns-then-self g c = rw c.if-self.true c.timing.ensures
