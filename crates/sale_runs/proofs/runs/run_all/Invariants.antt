-- What the sales passed have printed. Assumes nothing.
use Rattle.std.proofs.Common.{ℕ, List, ◌++◌, length, vec_items}
use Rattle.sale_runs.specs.Runs.{Runs}
use Rattle.sale_runs.proofs.runs.run_all.Given as goal

-- what is printed, and whatever the rest prints behind it, are what the input prints
abbrev pub invariant-loop-one : goal.invariant-loop-one
invariant-loop-one l = (more : List ℕ) → Runs l.rest more → Runs l.input (vec_items l.out ++ more)

abbrev pub decreases-loop-one : goal.decreases-loop-one
decreases-loop-one l = length l.rest
