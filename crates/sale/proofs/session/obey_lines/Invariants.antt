-- What the commands of an input have printed. Assumes nothing.
use Rattle.std.proofs.Common.{◌≡◌, ℕ, length, vec_items}
use Rattle.key_record.specs.Record.{start}
use Rattle.key_record.specs.States.{made_with}
use Rattle.line.specs.Lines.{state_of}
use Rattle.map_report.specs.Lines.{lines}
use Rattle.sale.proofs.Transcribing.{Reached}
use Rattle.sale.proofs.session.obey_lines.Given as goal

-- all commands but those of the rest have been obeyed, if the line was straight from its making; the memory
-- has 85 bytes
abbrev pub invariant-loop-bytes : goal.invariant-loop-bytes
invariant-loop-bytes g l = (length l.memory ≡ 85) × ((n : ℕ) → state_of l.initial.line ≡ made_with n
    → Reached g.P.Plan.whole g.P.Plan.rest (g.P.Plan.whole l.initial.line.plan) l.timers
    (start n)
    (lines l.input) (lines l.rest) (vec_items l.out) l.line)

abbrev pub decreases-loop-bytes : goal.decreases-loop-bytes
decreases-loop-bytes g l = length l.rest
