-- An arming of an idle line that is refused. Assumes nothing.
use Rattle.std.proofs.Common.{refl, inl, inr, arith}
use Rattle.key_record.specs.declared.call.Call.TheVariants.{Arm}
use Rattle.key_record.specs.declared.refusal.Refusal.TheVariants.{Setting, Reports}
use Rattle.line.proofs.Refusing.{refusing}
use Rattle.line.proofs.line.Line.enter.Goals as goal

pub returns-then-not-lawful : goal.returns-then-not-lawful
returns-then-not-lawful g c =
    refusing g.P.Plan.whole g.P.Plan.rest c.args.self.now (Arm c.args.settings) Setting
    (inl (c.requires, inr (c.if-not-lawful.ensures, refl)))

pub returns-then-spent : goal.returns-then-spent
returns-then-spent g c =
    refusing g.P.Plan.whole g.P.Plan.rest c.args.self.now (Arm c.args.settings) Reports
    (inl (c.requires, inl (c.if-not-lawful.ensures, inr (λ h. omega arith, refl))))
