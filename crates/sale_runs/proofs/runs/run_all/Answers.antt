-- Each sale prints its lines, and the last leaves none. Assumes nothing.
use Rattle.std.proofs.Common.{◌≡◌, ◌++◌, vec_items}
use Rattle.sale_runs.specs.Runs.{mark}
use Rattle.sale_runs.proofs.Marks.{parts_shorter, run_more, run_over}
use Rattle.sale_runs.proofs.runs.run_all.Goals as goal

pub loop-one-smaller : goal.loop-one-smaller
loop-one-smaller c = parts_shorter c.loop-one.rest.now _ _ c.in-Some.ensures

pub loop-one-preserved : goal.loop-one-preserved
loop-one-preserved c =
    let out = vec_items c.loop-one.out in
    let printed = vec_items c.in_ok-printed.printed in
    let grown : vec_items c.extend_from_slice-in-Some.new.self ≡ (out ++ printed) ++ mark =
    cc (
      c.in_ok-extend_from_slice.ensures.items,
      c.in_ok-extend_from_slice-2.ensures.items,
      c.deref.ensures.value,
    ) in
    rw grown (run_more c.args.input.now c.loop-one.rest.now out c.loop-one.invariant _ _ printed
    c.in-Some.ensures c.in_ok-printed.ensures)

pub returns : goal.returns
returns c =
    run_over c.args.input.now c.loop-one.rest.now (vec_items c.loop-one.out) c.loop-one.invariant
    c.in_default.ensures
