-- No place before the one at hand is live and answers yes. Assumes nothing.
use Rattle.std.proofs.Common.{◌≡◌, ℕ, ◌<◌, Bool, true, drop}
use Rattle.digit_map.specs.declared.node.Node.{Node}
use Rattle.digit_map.specs.Maps.{places}
use Rattle.map_plan.specs.Asking.{Asks, answered}
use Rattle.map_plan.specs.Members.{holds}
use Rattle.map_plan.specs.contracts.live.any_live.F-Fn.{words}
use Rattle.map_plan.proofs.live.any_live.Given as goal

abbrev pub invariant-loop-place : goal.invariant-loop-place
invariant-loop-place g l =
    (p : Node → Bool) → Asks ((words g.row.F g.F.Fn).post l.asks) p → (k : ℕ) → k < l.place →
    holds l.plan.live k ≡ true → answered p (drop k (places l.plan.map)) ≡ true → ⊥
