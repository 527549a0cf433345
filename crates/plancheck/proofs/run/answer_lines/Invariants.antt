-- What has been printed of an input. Assumes nothing.
use Rattle.std.proofs.Common.{length, string_bytes}
use Rattle.map_report.specs.Lines.{lines}
use Rattle.plancheck.specs.Stores.{store_of}
use Rattle.plancheck.proofs.Transcripts.{Printed}
use Rattle.plancheck.proofs.run.answer_lines.Given as goal

-- all lines but those of the rest have been answered
abbrev pub invariant-loop-line : goal.invariant-loop-line
invariant-loop-line l = Printed (lines l.input) (string_bytes l.out) (store_of l.kept) (lines l.rest)

abbrev pub decreases-loop-line : goal.decreases-loop-line
decreases-loop-line l = length l.rest
