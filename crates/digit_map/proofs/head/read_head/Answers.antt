use Rattle.std.proofs.Common.{◌∙◌}
use Rattle.std.proofs.lemmas.Result.{err_from_is_err_and}
use Rattle.digit_map.proofs.HeadRuns.{head_ends, head_bad, head_on}
use Rattle.digit_map.proofs.head.read_head.Goals as goal

pub returns-in_default : goal.returns-in_default
returns-in_default c =
    let i = c.fields.invariant in
    head_ends i.head (rw (i.text, i.base) at c.next.ensures.reads) c.in_default.ensures

pub returns-in_err-value : goal.returns-in_err-value
returns-in_err-value c =
    let i = c.fields.invariant in
    let p = err_from_is_err_and c.from_residual.result c.from_residual.ensures.1 in
    let n = rw (i.text, i.base) at c.next.ensures.reads in
    let t = c.next.ensures.same.text ∙ i.text in
    let b = c.next.ensures.same.base ∙ i.base in
    rw (p.1, p.2) (head_bad i.head n c.in-Some.ensures (rw (t, b) at c.in_err-value.ensures.reads))

pub fields-preserved : goal.fields-preserved
fields-preserved c =
    let i = c.fields.invariant in
    let s = c.in_ok-value.ensures in
    let n = rw (i.text, i.base) at c.next.ensures.reads in
    let t = c.next.ensures.same.text ∙ i.text in
    let b = c.next.ensures.same.base ∙ i.base in
    record {
      text = s.same.text ∙ t;
      base = s.same.base ∙ b;
      head = rw c.with_field-timers.ensures
          (head_on i.head n c.in-Some.ensures (rw (t, b) at s.reads));
    }
