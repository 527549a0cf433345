-- A claim. Assumes nothing.
use Rattle.std.proofs.Common.{refl, ◌∙◌, inr}
use Rattle.key_record.specs.declared.call.Call.TheVariants.{Claim}
use Rattle.key_record.specs.declared.refusal.Refusal.TheVariants.{NotDone}
use Rattle.line.proofs.Refusing.{refusing}
use Rattle.line.proofs.Settling.{claiming}
use Rattle.line.proofs.line.Line.claim.Goals as goal

pub returns-in-Done : goal.returns-in-Done
returns-in-Done g c =
    claiming g.P.Plan.whole g.P.Plan.rest c.args.self.now _ refl
    c.in-Done.ending c.with.result c.in-Done.is (c.with.ensures ∙ c.numbers.ensures) refl

pub returns-in_default : goal.returns-in_default
returns-in_default g c =
    refusing g.P.Plan.whole g.P.Plan.rest c.args.self.now Claim NotDone
    (inr (λ h. c.in_default.not-Done h.0 h.1, refl))
