-- What has been told of a row. Assumes nothing.
use Rattle.std.proofs.Common.{drop, string_bytes}
use Rattle.keypad.specs.Sets.{Same}
use Rattle.plan_report.proofs.Rows.{RowUpto}
use Rattle.plan_report.proofs.key.tell_row.Given as goal

-- the whole is that of the rewound plan, and the keys passed have been told
abbrev pub invariant-loop-symbol : goal.invariant-loop-symbol
invariant-loop-symbol g l =
    Same (g.P.Plan.whole l.plan) (g.P.Plan.whole l.initial.plan)
    × RowUpto (g.P.Plan.rest l.initial.plan) l.row (g.P.Plan.rest l.plan) (string_bytes l.out)
    (drop l.symbol-index l.row)
