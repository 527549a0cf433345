-- Another item in the place of one. Assumes nothing.
use Rattle.std.proofs.Math.Seq.{take-set-lt}
use Rattle.keypad.proofs.row.Row.set.Goals as goal

pub returns-then-index-self : goal.returns-then-index-self
returns-then-index-self g c =
    let r = c.args.self.now in
    take-set-lt r.len r.items c.args.index c.args.item c.if-index-self.true
