-- What has been told of the items. Assumes nothing.
use Rattle.std.proofs.Common.{ℕ, List, vec_items}
use Rattle.std.specs.Fn.{FnReturnsAt}
use Rattle.play_report.specs.Sides.{Tells}
use Rattle.play_report.proofs.Told.{Upto}
use Rattle.play_report.proofs.tell.add_each.Given as goal

-- in whatever words the texts tell the items, the items passed have been told
abbrev pub invariant-loop-item : goal.invariant-loop-item
invariant-loop-item g l =
    (words : _ → List ℕ) → Tells (FnReturnsAt g.F.Fn l.text) words
    → Upto words l.items (vec_items l.initial.out) (vec_items l.out) l.item-index
