-- A key of a line that is not open. Assumes nothing.
use Rattle.std.proofs.Common.{refl, inr, arith}
use Rattle.key_record.specs.declared.call.Call.TheVariants as call
use Rattle.key_record.specs.declared.refusal.Refusal.TheVariants as refusal
use Rattle.line.proofs.Queueing.{queue_full, queue_joined}
use Rattle.line.proofs.Refusing.{refusing}
use Rattle.line.proofs.line.Line.queue.Goals as goal

pub returns-then-event-gt15 : goal.returns-then-event-gt15
returns-then-event-gt15 g c =
    refusing g.P.Plan.whole g.P.Plan.rest c.args.self.now (call.Key c.args.event) refusal.Key
    (inr (λ h. omega arith, refl))

pub returns-then-len-ge32 : goal.returns-then-len-ge32
returns-then-len-ge32 g c =
    queue_full g.P.Plan.whole g.P.Plan.rest c.args.self.now c.args.event c.requires
    c.if-event-gt15.false (omega arith)

pub returns : goal.returns
returns g c =
    queue_joined g.P.Plan.whole g.P.Plan.rest c.args.self.now c.args.event c.requires
    c.if-event-gt15.false _ c.len-2.result (omega arith) refl refl c.push.ensures
    c.len-2.ensures.value
