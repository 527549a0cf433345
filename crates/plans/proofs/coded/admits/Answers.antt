-- An entry of the rest has ended or goes on. Assumes nothing.
use Rattle.std.proofs.Common.{subst}
use Rattle.keypad.specs.Entries.{Entries}
use Rattle.keypad.specs.Answers.{Tells}
use Rattle.keypad.specs.Sets.{Ended}
use Rattle.plans.specs.Behind.{any_ended, any_goes}
use Rattle.plans.proofs.coded.admits.Goals as goal

pub returns-then-satisfied : goal.returns-then-satisfied
returns-then-satisfied g c = any_ended (g.P.Plan.rest c.args.part.now) c.satisfied.result
    c.if-satisfied.true c.satisfied.ensures

pub returns-else-satisfied : goal.returns-else-satisfied
returns-else-satisfied g c =
    let a : Entries = g.P.Plan.rest c.args.part.now in
    any_goes a _ (subst (Tells (Ended a)) c.if-satisfied.false c.satisfied.ensures)
    c.goes_on.ensures
