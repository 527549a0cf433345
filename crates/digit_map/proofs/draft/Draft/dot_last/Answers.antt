-- A dot behind the last place keeps both counts. Assumes nothing.
use Rattle.std.proofs.Common.{rules, sym, ap, ◌∙◌, arith}
use Rattle.digit_map.specs.Nodes.{count_positions, count_ends}
use Rattle.digit_map.specs.Drafts.{drafted}
use Rattle.digit_map.proofs.Places.{dots_last, dots_none}
use Rattle.digit_map.proofs.NodeLaws.{positions_dot_last, ends_dot_last}
use Rattle.digit_map.proofs.draft.Draft.dot_last.Goals as goal

pub invariant_of-self : goal.invariant_of-self
invariant_of-self c =
    let ns = drafted c.args.self.now in
    let e = c.set.ensures
    ∙ dots_last ns _ _ _ (search rules) (sym c.get.ensures ∙ c.in-Some.is) (omega arith) in
    let p = ap count_positions e ∙ positions_dot_last ns in
    let q = ap count_ends e ∙ ends_dot_last ns in
    record { counted = omega arith; few = omega arith; ended = omega arith; within = omega arith }

pub returns-in-Some-clause-places : goal.returns-in-Some-clause-places
returns-in-Some-clause-places c =
    c.set.ensures ∙ dots_last _ _ _ _ (search rules) (sym c.get.ensures ∙ c.in-Some.is) (omega arith)

pub returns-in_default-clause-places : goal.returns-in_default-clause-places
returns-in_default-clause-places c = sym (dots_none _ _ (sym c.get.ensures ∙ c.in_default.is) (omega arith))
