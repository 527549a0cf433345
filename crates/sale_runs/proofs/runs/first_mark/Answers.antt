-- The first place at which a line that ends a sale begins. Assumes nothing.
use Rattle.std.proofs.Common.{rules}
use Rattle.std.proofs.lemmas.Iterator.{first_from_Range}
use Rattle.sale_runs.specs.Runs.{Marked}
use Rattle.sale_runs.proofs.Marks.{first_marked}
use Rattle.sale_runs.proofs.runs.first_mark.Goals as goal

pub returns : goal.returns
returns c =
    let bs = c.args.input.now in
    first_marked bs c.find.result
    (first_from_Range _ _ _ c.find.result (λ k. (rest : _) × Marked bs k rest) (λ k. (rest : _) → Marked bs k rest → ⊥)
    c.find.ensures.ran (λ x q k. search rules) (λ x q k. search rules))
