-- A part that is live answers as its plan does. Assumes nothing.
use Rattle.plans.proofs.pair.PartPlan.open.Goals as goal

pub returns-then-self : goal.returns-then-self
returns-then-self g c = rw c.if-self.true c.open.ensures
