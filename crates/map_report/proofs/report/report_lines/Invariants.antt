-- What has been told of an input. Assumes nothing.
use Rattle.std.proofs.Common.{length, string_bytes}
use Rattle.map_report.specs.Lines.{lines}
use Rattle.map_report.proofs.Reports.{Told}
use Rattle.map_report.proofs.report.report_lines.Given as goal

-- all lines but those of the rest have been told
abbrev pub invariant-loop-line : goal.invariant-loop-line
invariant-loop-line l = Told (lines l.input) (string_bytes l.out) (lines l.rest)

abbrev pub decreases-loop-line : goal.decreases-loop-line
decreases-loop-line l = length l.rest
