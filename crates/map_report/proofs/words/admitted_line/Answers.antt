-- The parts of the line in their order. Assumes nothing.
use Rattle.std.proofs.Common.{append_assoc}
use Rattle.map_report.specs.Phrases.{timing, counted, summary}
use Rattle.map_report.proofs.words.admitted_line.Goals as goal

pub returns : goal.returns
unfolding timing counted summary
returns c = simp append_assoc (simp append_assoc at c.format.ensures.ok)
