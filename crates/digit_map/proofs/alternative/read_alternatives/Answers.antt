-- The first alternative begins, behind an opening bracket or at once. Assumes nothing.
use Rattle.std.proofs.Common.{◌∙◌}
use Rattle.digit_map.proofs.Alternatives.{begins_open, begins_bare}
use Rattle.digit_map.proofs.alternative.read_alternatives.Goals as goal
use Rattle.digit_map.proofs.alternative.read_alternatives.Goals.{in-Open, in_default}

pub alternatives-init : goal.alternatives-init
alternatives-init c =
    let b = c.begin-start.ensures in
    let k = c.next.ensures.same in
    let n = rw (b.text, b.base, b.cursor) at c.next.ensures.reads in
    let g = c.in_ok-sign.ensures in
    let m = c.args.draft.now in
    elim c.match-sign.branch [
      | in-Open w ↦ rw w.bracketed-is
          record {
            text = k.text ∙ b.text;
            base = k.base ∙ b.base;
            read = begins_open n m g c.requires.empty w.in-Open.is;
          }
      | in_default w ↦ rw w.bracketed-is
          record {
            text = b.text;
            base = b.base;
            read = rw b.cursor (begins_bare n m g c.requires.empty w.in_default.not-Open);
          }
    ]
