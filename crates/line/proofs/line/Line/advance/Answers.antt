-- An arming of a line that is not idle, and an expiry at one that is not open. Assumes nothing.
use Rattle.std.proofs.Common.{◌≡◌, sym, refl, subst, inr, rules, Err}
use Rattle.key_record.specs.declared.call.Call.TheVariants.{Arm}
use Rattle.key_record.specs.declared.ending.Phase.TheVariants.{Idle, Open}
use Rattle.key_record.specs.declared.refusal.Refusal.TheVariants.{NotIdle, NoTimer}
use Rattle.line.specs.Does.{Does, call_of}
use Rattle.line.proofs.Lapsing.{lapse_none}
use Rattle.line.proofs.Refusing.{refusing}
use Rattle.line.proofs.line.Line.advance.Goals as goal

pub returns-in-Arm-default : goal.returns-in-Arm-default
returns-in-Arm-default g c =
    let l = c.args.self.now in
    let never : (l.phase ≡ Idle → ⊥) = search rules in
    subst (λ x. Does g.P.Plan.whole g.P.Plan.rest l (call_of x) (Err NotIdle) l)
    (sym c.in-Arm-default.is-0)
    (refusing g.P.Plan.whole g.P.Plan.rest l (Arm c.in-Arm-default.field-0-0) NotIdle
    (inr (never, refl)))

pub returns-in-Expire-default : goal.returns-in-Expire-default
returns-in-Expire-default g c =
    let l = c.args.self.now in
    let never : (l.phase ≡ Open → ⊥) = search rules in
    subst (λ x. Does g.P.Plan.whole g.P.Plan.rest l (call_of x) (Err NoTimer) l)
    (sym c.in-Expire-default.is-0)
    (lapse_none g.P.Plan.whole g.P.Plan.rest l c.in-Expire-default.field-0-0 (inr (never, refl)))
