-- An arming of an idle line. Assumes nothing.
use Rattle.std.proofs.Common.{◌+◌, cond, refl, ap, ◌∙◌}
use Rattle.key_record.specs.declared.ending.Phase.TheVariants.{Open}
use Rattle.key_record.specs.States.{with_phase, with_ahead}
use Rattle.line.specs.Lines.{state_of}
use Rattle.line.specs.Processed.{finished}
use Rattle.line.proofs.Feeding.{feeding_next, feeding_all, feeding_more}
use Rattle.line.proofs.Arming.{arming_opens, arming_ends}
use Rattle.line.proofs.line.Line.begin.Goals.{then-kept, else-kept}
use Rattle.line.proofs.line.Line.begin.Goals as goal

pub returns-in-Some : goal.returns-in-Some
returns-in-Some g c =
    let n = c.process.new.self in
    let fed = c.loop-fed.fed in
    let e = c.in-Some.ending in
    arming_ends g.P.Plan.whole g.P.Plan.rest c.args.self.now _ c.requires.phase c.requires.lawful
    c.requires.few refl c.rewind.ensures.whole c.rewind.ensures.rest c.loop-fed.self fed
    c.loop-fed.invariant n _ _ e c.if-kept.discard
    (feeding_next g.P.Plan.whole g.P.Plan.rest _ _ _ c.loop-fed.invariant _
    c.events-event-items.ensures _ c.loop-fed-test.true)
    c.in-Some.ensures (elim c.if-kept.branch [
      | then-kept w ↦ w.discard-is ∙ ap (λ q. cond q fed (fed + 1)) w.if-kept.ensures
      | else-kept w ↦ w.discard-is ∙ ap (λ q. cond q fed (fed + 1)) w.if-kept.ensures
    ]) c.finish.ensures.plan
    (c.finish.ensures.state ∙ ap (λ q. finished (with_ahead (state_of n) q) e) c.discard.ensures)

pub loop-fed-preserved : goal.loop-fed-preserved
loop-fed-preserved g c =
    feeding_more g.P.Plan.whole g.P.Plan.rest _ _ _ c.loop-fed.invariant _
    (feeding_next g.P.Plan.whole g.P.Plan.rest _ _ _ c.loop-fed.invariant _
    c.events-event-items.ensures _ c.loop-fed-test.true) _ c.in_default.ensures

pub returns : goal.returns
returns g c =
    let m = c.loop-fed.self in
    arming_opens g.P.Plan.whole g.P.Plan.rest c.args.self.now _ c.requires.phase c.requires.lawful
    c.requires.few refl c.rewind.ensures.whole c.rewind.ensures.rest m _ c.loop-fed.invariant _
    c.timer.result (feeding_all g.P.Plan.whole g.P.Plan.rest _ _ _ c.loop-fed.invariant _
    c.events-event-items.ensures c.loop-fed-test.false) refl
    (ap (λ q. with_phase (with_ahead (state_of m) q) Open) c.new-self-2.ensures) c.timer.ensures
