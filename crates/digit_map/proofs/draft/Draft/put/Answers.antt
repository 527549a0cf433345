-- One position more: the counts, and the places. Assumes nothing.
use Rattle.std.proofs.Common.{ap, ◌∙◌, arith}
use Rattle.digit_map.specs.Nodes.{awaiting, count_positions, count_ends}
use Rattle.digit_map.specs.Drafts.{drafted}
use Rattle.digit_map.proofs.Places.{pushed, positions_push, ends_push}
use Rattle.digit_map.proofs.draft.Draft.put.Goals as goal

pub invariant_of-self : goal.invariant_of-self
invariant_of-self c =
    let m = c.args.self.now in
    let ns = drafted m in
    let n = awaiting c.args.position c.args.mark c.args.marked in
    let e = c.push.ensures ∙ pushed ns n (omega arith) in
    let p = ap count_positions e ∙ positions_push ns n in
    let q = ap count_ends e ∙ ends_push ns n in
    record { counted = omega arith; few = omega arith; ended = omega arith; within = omega arith }

pub returns-clause-places : goal.returns-clause-places
returns-clause-places c =
    c.push.ensures ∙ pushed (drafted c.args.self.now) _ (omega arith)
