-- A waiving. Assumes nothing.
use Rattle.std.proofs.Common.{refl}
use Rattle.line.specs.Lines.{state_of}
use Rattle.line.proofs.Settling.{presents_none, presents_one, waived, waive_refused}
use Rattle.line.proofs.line.Line.waive.Goals as goal

pub returns-then-is_none : goal.returns-then-is_none
returns-then-is_none g c =
    let l = c.args.self.now in
    waive_refused g.P.Plan.whole g.P.Plan.rest l c.args.receipt c.numbers.result
    c.numbers.ensures (presents_none (state_of l) c.numbers.result c.claimed_by.result
    c.claimed_by.ensures c.if-is_none.ensures)

pub returns : goal.returns
returns g c =
    waived g.P.Plan.whole g.P.Plan.rest c.args.self.now _ refl c.args.receipt
    c.numbers.result c.numbers.ensures refl (presents_one (state_of c.args.self.now)
    c.numbers.result c.claimed_by.result c.claimed_by.ensures c.if-is_none.ensures)
