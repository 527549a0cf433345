-- So many items off the front. Assumes nothing.
use Rattle.std.proofs.Common.{◌≡◌, ◌-◌, min, length, take, drop, ap, ◌∙◌, arith}
use Rattle.keypad.specs.Rows.{listed}
use Rattle.keypad.proofs.Lists.{take_rotated, drop_least}
use Rattle.keypad.proofs.Rows.{length_listed}
use Rattle.keypad.proofs.row.Row.discard_front.Goals as goal

pub returns : goal.returns
returns g c =
    let r = c.args.self.now in
    let off = c.min-off.result in
    let n = length_listed r in
    let e : off ≡ min c.args.most (length (listed r)) = omega arith in
    ap (λ l. take (r.len - off) l) c.rotate_left.ensures.after
    ∙ (take_rotated off r.len r.items (omega arith) (omega arith)
    ∙ (ap (λ i. drop i (listed r)) e ∙ drop_least c.args.most (listed r)))
