-- The cases hold. Assumes nothing.
use Rattle.sale_cases.proofs.Cases.{sale_cases_lem}
use Rattle.sale_cases.proofs.sale_cases_stand.Goals as goal

pub returns : goal.returns
returns c = sale_cases_lem
