-- The plan has the entries of its part behind the code. Assumes nothing.
use Rattle.plancheck.proofs.Told.{behind_code}
use Rattle.plancheck.proofs.kept.Kept.coded.Goals as goal

pub returns-clause-admits : goal.returns-clause-admits
returns-clause-admits g c =
    behind_code c.deref.result.now c.args.self.now.code.items _ (g.P.Plan.whole c.args.part)
    c.deref.ensures.value c.in_ok-new.ensures.whole
