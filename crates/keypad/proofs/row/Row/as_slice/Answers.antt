-- No more items than places. Assumes nothing.
use Rattle.std.proofs.Common.{arith}
use Rattle.keypad.proofs.Rows.{length_listed}
use Rattle.keypad.proofs.row.Row.as_slice.Goals as goal

pub returns-clause-bound : goal.returns-clause-bound
returns-clause-bound g c = let n = length_listed c.args.self.now in omega arith
