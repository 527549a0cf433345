-- The input is parted at the first line that ends a sale. Assumes nothing.
use Rattle.std.proofs.Common.{◌+◌}
use Rattle.std.proofs.lemmas.List.{take_rest}
use native.Mathlib.Nat.{sub-zero}
use Rattle.sale_runs.proofs.Marks.{parts_first}
use Rattle.sale_runs.proofs.runs.first_sale.Goals as goal

pub returns : goal.returns
returns c =
    let input = c.args.input.now in
    rw (sub-zero, take_rest input (c.in_ok-at.at + 5)) (parts_first input c.in_ok-at.at c.in_ok-at.ensures)
