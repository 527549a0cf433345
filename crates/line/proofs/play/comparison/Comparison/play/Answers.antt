-- Two lists of calls played on lines with one number. Assumes nothing.
use Rattle.key_record.proofs.Agreements.{agreement}
use Rattle.line.proofs.play.comparison.Comparison.play.Goals as goal

pub returns-clause-agreement : goal.returns-clause-agreement
returns-clause-agreement g c = agreement _ _ _ _ _ _ _ c.play-one.ensures.recorded c.play-other.ensures.recorded
