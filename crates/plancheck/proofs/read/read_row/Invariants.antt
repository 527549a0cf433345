-- What has been read of a row. Assumes nothing.
use Rattle.std.proofs.Common.{length, vec_items}
use Rattle.plancheck.proofs.Rows.{RowReading}
use Rattle.plancheck.proofs.read.read_row.Given as goal

-- the text before the rest is the row
abbrev pub invariant-loop-symbol : goal.invariant-loop-symbol
invariant-loop-symbol l = RowReading l.text l.rest (vec_items l.row)

abbrev pub decreases-loop-symbol : goal.decreases-loop-symbol
decreases-loop-symbol l = length l.rest
