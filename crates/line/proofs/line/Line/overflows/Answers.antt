-- Whether a key would take the dial string past its end. Assumes nothing.
use Rattle.std.proofs.Common.{rules}
use Rattle.line.specs.Lines.{state_of}
use Rattle.line.proofs.Fitting.{fits_unless}
use Rattle.line.proofs.line.Line.overflows.Goals as goal

pub returns : goal.returns
returns g c =
    let l = c.args.self.now in
    fits_unless (state_of l) (g.P.Plan.rest l.plan) c.args.event c.is_held_long.result
    c.is_held_long.ensures c.chosen.result c.chosen.ensures c.is_some_and.result
    c.is_some_and.ensures (λ y h. search rules)
