-- What holds while the keys ahead are fed. Assumes nothing.
use Rattle.line.proofs.Feeding.{Feeding}
use Rattle.line.proofs.line.Line.begin.Given as goal

abbrev pub invariant-loop-fed : goal.invariant-loop-fed
invariant-loop-fed g l = Feeding g.P.Plan.whole g.P.Plan.rest l.initial.self l.self l.fed
