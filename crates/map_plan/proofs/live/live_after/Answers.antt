-- One place more is settled, and then all are. Assumes nothing.
use Rattle.std.proofs.Common.{◌≡◌, Bool, true, false, ◌&&◌, ◌||◌, length, ap, arith}
use Rattle.digit_map.specs.Maps.{places}
use Rattle.map_plan.specs.Members.{Added}
use Rattle.map_plan.proofs.Spots.{read_at}
use Rattle.map_plan.proofs.Upto.{upto_more, added_if, added_not}
use Rattle.map_plan.proofs.Reached.{reached_rest, reached_closed}
use Rattle.map_plan.proofs.live.live_after.Goals as goal
use Rattle.map_plan.proofs.live.live_after.Goals.{then-reached, else-reached+else-repeats}

pub loop-place-preserved : goal.loop-place-preserved
loop-place-preserved c =
    let e = c.places-node-items.ensures in
    let ns = places c.args.plan.now.map in
    let l = c.loop-place in
    let p = c.passes-passed.result in
    let d = c.dotted-repeats.result in
    let wanted : Bool = l.reached || (p && d) in
    let add : Added l.live l.place wanted c.if-reached.live = elim c.if-reached.branch [
      | then-reached w ↦
          let want : wanted ≡ true = grind (arith, w.then-reached.branch) in
          added_if l.live l.place wanted c.if-reached.live want (rw w.live-is w.add.ensures)
      | else-reached+else-repeats w ↦
          let want : wanted ≡ false = grind (arith, w.if-passed.branch) in
          added_not l.live l.place wanted c.if-reached.live want w.live-is
    ] in
    let now : c.if-passed-2.reached ≡ ((l.reached && d) || p) = grind (arith, c.if-passed-2.branch) in
    let at = read_at c.places-node-items.result.now ns l.place _ e c.loop-place-test.true in
    rw now
    (upto_more ns c.args.plan.now.live c.args.symbol l.place l.live c.if-reached.live _ l.reached p d
    l.invariant at (omega (arith, ap length e)) c.passes-passed.ensures c.dotted-repeats.ensures add)

pub returns : goal.returns
returns c =
    let p = c.args.plan.now in
    let ns = places p.map in
    let l = c.loop-place in
    let h = c.loop-place-test.false in
    let e = ap length c.places-node-items.ensures in
    record {
      closed =
          reached_closed ns p.live c.args.symbol l.place l.live l.reached l.invariant (omega arith);
      rest =
          reached_rest ns p.live c.args.symbol l.place l.live l.reached l.invariant (omega arith)
          p.closed;
    }
