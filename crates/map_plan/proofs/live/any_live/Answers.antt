-- A live place that answers yes is found, or there is none. Assumes nothing.
use Rattle.std.proofs.Common.{rules, false, sym, refl, ap, ◌∙◌, below_more, arith, length}
use Rattle.std.proofs.lemmas.Bool.{both_ways}
use Rattle.digit_map.specs.Maps.{places}
use Rattle.map_plan.specs.Asking.{answered}
use Rattle.map_plan.proofs.Spots.{read_at, answered_inside}
use Rattle.map_plan.proofs.live.any_live.Goals as goal
use Rattle.map_plan.proofs.live.any_live.Goals.{else-has-via-then-has+else-asks, else-has-via-else-has}

pub loop-place-init : goal.loop-place-init
loop-place-init g c = search rules

pub loop-place-preserved : goal.loop-place-preserved
loop-place-preserved g c p says =
    let ns = places c.args.plan.now.map in
    let at = read_at c.places-node-items.result.now ns c.loop-place.place _ c.places-node-items.ensures c.loop-place-test.true in
    below_more _ _ (c.loop-place.invariant p says)
    (λ v a. elim c.else-has.branch [
      | else-has-via-then-has+else-asks w ↦
          let node = ap (answered p) at in
          both_ways false refl (says _ _ w.if-asks.ensures ∙ (sym node ∙ a))
      | else-has-via-else-has w ↦ both_ways false refl (w.if-has.ensures ∙ v)
    ])

pub returns : goal.returns
returns g c p says x =
    let e = ap length c.places-node-items.ensures in
    let l = answered_inside (places c.args.plan.now.map) p x.0 x.2 in
    c.loop-place.invariant p says x.0 (omega arith) x.1 x.2
