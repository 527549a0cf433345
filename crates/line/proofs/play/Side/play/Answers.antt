-- A list of calls played on a line. Assumes nothing.
use Rattle.std.proofs.Common.{ap, subst, arith}
use Rattle.keypad.proofs.Sames.{same_refl}
use Rattle.key_record.specs.Agreement.{Recorded}
use Rattle.line.specs.Plays.{played_shown}
use Rattle.line.proofs.Plays.{going_none, going_next, going_all}
use Rattle.line.proofs.play.Side.play.Goals as goal

pub loop-call-init : goal.loop-call-init
loop-call-init g c =
    let w = g.P.Plan.whole c.new.result.plan in
    let room = c.args.self.room in
    let calls = c.args.self.calls.ok.0 in
    let same = c.deref-call-items.ensures.len in
    record {
      going = going_none g.P.Plan.whole g.P.Plan.rest c.args.number w _ c.new.ensures.state (same_refl w)
          c.args.self.blank;
      room = record { replies = omega arith; reports = omega arith; lines = omega arith };
    }

pub loop-call-preserved : goal.loop-call-preserved
loop-call-preserved g c =
    let w = g.P.Plan.whole c.new.result.plan in
    let room = c.loop-call.invariant.room in
    record {
      going = going_next g.P.Plan.whole g.P.Plan.rest c.args.number w _ c.loop-call.call-index _
          c.loop-call.played c.note.new.self c.loop-call-test.true c.loop-call.invariant.going
          c.note.ensures;
      room = c.note.ensures.room _ (record { replies = omega arith; reports = omega arith; lines = omega arith });
    }

pub returns-clause-recorded : goal.returns-clause-recorded
returns-clause-recorded g c =
    let w = g.P.Plan.whole c.new.result.plan in
    let number = c.args.number in
    let p = c.loop-call.played in
    subst (λ cs. Recorded (g.P.Plan.whole c.args.self.plan) number cs (played_shown p))
    c.deref-call-items.ensures.value
    (subst (λ v. Recorded v number c.deref-call-items.result.now (played_shown p))
    (ap g.P.Plan.whole c.new.ensures.plan)
    (going_all g.P.Plan.whole g.P.Plan.rest number w _ c.loop-call.call-index p
    c.loop-call-test.false c.loop-call.invariant.going))
