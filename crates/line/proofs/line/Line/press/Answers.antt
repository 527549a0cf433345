-- A key of an open line. Assumes nothing.
use Rattle.std.proofs.Common.{refl, inl, inr, arith}
use Rattle.key_record.specs.declared.call.Call.TheVariants as call
use Rattle.key_record.specs.declared.refusal.Refusal.TheVariants as refusal
use Rattle.line.proofs.Pressing.{press_on, press_lost, press_kept}
use Rattle.line.proofs.Refusing.{refusing}
use Rattle.line.proofs.line.Line.press.Goals as goal

pub returns-then-event-gt15 : goal.returns-then-event-gt15
returns-then-event-gt15 g c =
    refusing g.P.Plan.whole g.P.Plan.rest c.args.self.now (call.Key c.args.event)
    refusal.Key (inr (λ h. omega arith, refl))

pub returns-then-overflows : goal.returns-then-overflows
returns-then-overflows g c =
    let past = c.if-overflows.ensures in
    refusing g.P.Plan.whole g.P.Plan.rest c.args.self.now (call.Key c.args.event)
    refusal.Dial (inl (c.if-event-gt15.false, inl (c.requires, inr (past, refl))))

pub returns-then-keeps_last : goal.returns-then-keeps_last
returns-then-keeps_last g c =
    press_kept g.P.Plan.whole g.P.Plan.rest c.args.self.now c.args.event c.requires
    c.if-event-gt15.false c.if-overflows.ensures c.process.new.self c.finish.new.self
    c.in-Some.ending c.in-Some.ensures c.finish.ensures.state c.finish.ensures.plan _
    c.if-keeps_last.ensures refl refl c.push.ensures

pub returns-else-keeps_last : goal.returns-else-keeps_last
returns-else-keeps_last g c =
    press_lost g.P.Plan.whole g.P.Plan.rest c.args.self.now c.args.event c.requires
    c.if-event-gt15.false c.if-overflows.ensures c.process.new.self c.finish.new.self
    c.in-Some.ending c.in-Some.ensures c.finish.ensures.state c.finish.ensures.plan
    c.if-keeps_last.ensures

pub returns-in-None : goal.returns-in-None
returns-in-None g c =
    press_on g.P.Plan.whole g.P.Plan.rest c.args.self.now c.args.event c.requires
    c.if-event-gt15.false c.if-overflows.ensures c.process.new.self c.timer.result
    c.in-None.ensures c.timer.ensures
