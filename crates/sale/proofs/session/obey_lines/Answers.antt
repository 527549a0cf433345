-- A turn obeys the first command of the rest, and none is left at the end. Assumes nothing.
use Rattle.std.proofs.Common.{◌≡◌, ℕ, List, [], ◌++◌, vec_items, sym, refl, subst, append-nil, arith}
use native.Mathlib.Nat.{sub-zero}
use Rattle.key_record.specs.Record.{start}
use Rattle.map_report.specs.Lines.{lines}
use Rattle.sale.specs.Printing.{Prints}
use Rattle.sale.specs.Transcripts.{Transcript}
use Rattle.sale.proofs.Transcribing.{Reached, reached_none, reached_more, printed_fits, printed_front}
use Rattle.sale.proofs.session.obey_lines.Goals as goal

pub loop-bytes-init : goal.loop-bytes-init
loop-bytes-init g c = (
  refl,
  λ n made.
      let all = lines c.args.input.now in
      let whole = g.P.Plan.whole in
      let rest = g.P.Plan.rest in
      subst (λ (out : List ℕ). Reached whole rest (whole c.args.line.now.plan) c.args.timers
      (start n) all
      all out c.args.line.now) (sym c.new-out.ensures.items)
      (reached_none whole rest c.args.timers all c.args.line.now n made),
)

pub slice_bounds-extend_from_slice-end : goal.slice_bounds-extend_from_slice-end
slice_bounds-extend_from_slice-end g c = printed_fits _ _ _ _ c.in-Ok.ensures.1.2

pub loop-bytes-preserved-in_ok-extend_from_slice : goal.loop-bytes-preserved-in_ok-extend_from_slice
loop-bytes-preserved-in_ok-extend_from_slice g c =
    let told = c.in-Ok.ensures.1 in
    let prints = subst (λ k. Prints g.P.Plan.whole g.P.Plan.rest c.args.timers k
    c.loop-bytes.line
    c.in-Some.bytes.now told.0 c.obey.new.line) c.loop-bytes.invariant.0 told.1 in
    let grown : vec_items c.extend_from_slice.new.self ≡ vec_items c.loop-bytes.out ++ told.0 =
    cc (
      c.in_ok-extend_from_slice.ensures.items,
      sub-zero c.in-Ok.length,
      printed_front _ _ _ _ told.2,
    ) in (
      omega arith,
      λ n made. reached_more _ _ _ _ _ _ _ _ _ _ _ _ _ _ (c.loop-bytes.invariant.1 n made)
          c.in-Some.ensures.split prints grown,
    )

pub returns : goal.returns
returns g c n made =
    let none = subst (λ (bs : List ℕ). Transcript (g.P.Plan.whole c.args.line.now.plan)
    c.args.timers
    (c.loop-bytes.invariant.1 n made).kept (lines bs) []) (sym c.in_default.ensures) refl in
    rw append-nil at ((c.loop-bytes.invariant.1 n made).so_far [] none)
