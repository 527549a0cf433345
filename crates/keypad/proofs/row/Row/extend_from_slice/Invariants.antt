-- The items so far are pushed. Assumes nothing.
use Rattle.std.proofs.Common.{◌≡◌, ◌++◌, take}
use Rattle.keypad.specs.Rows.{listed}
use Rattle.keypad.proofs.row.Row.extend_from_slice.Given as goal

abbrev pub invariant-loop-item : goal.invariant-loop-item
invariant-loop-item g l = listed l.self ≡ take g.row.N (listed l.initial.self ++ take l.item-index l.more)
