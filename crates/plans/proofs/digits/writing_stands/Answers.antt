-- The laws of the writing are those of proofs/Writings. Assumes nothing.
use Rattle.plans.specs.WritingsLemmas.{writing_stands_lem}
use Rattle.plans.proofs.digits.writing_stands.Goals as goal

pub returns : goal.returns
returns c = writing_stands_lem
