-- What is left of the pair where one of its parts takes the symbol. Assumes nothing.
use Rattle.std.proofs.Common.{sym, ◌∙◌, inl, inr}
use Rattle.keypad.specs.Entries.{Entries}
use Rattle.plans.specs.Pairs.{Live}
use Rattle.plans.proofs.Pairs.{pressed_some}
use Rattle.plans.proofs.pair.PairPlanPlan.press.Goals as goal
use Rattle.plans.proofs.pair.PairPlanPlan.press.Goals.{then-first_takes, else-first_takes}

pub returns-then-taken-clause-rest : goal.returns-then-taken-clause-rest
returns-then-taken-clause-rest g c =
    let p = c.args.self.now in
    let one = c.press-first_takes in
    let other = c.press-second_takes in
    let a : Entries = Live p.first.live (g.P.Plan.rest p.first.plan) in
    let b : Entries = Live p.second.live (g.Q.Plan.rest p.second.plan) in
    rw c.if-taken.true
    (pressed_some a b (g.P.Plan.rest one.new.self.plan) (g.Q.Plan.rest other.new.self.plan)
    c.args.symbol one.new.self.live other.new.self.live one.result other.result
    (elim c.if-first_takes.branch [
      | then-first_takes w ↦ inl w.if-first_takes.true
      | else-first_takes w ↦ inr (sym w.taken-is ∙ c.if-taken.true)
    ])
    one.ensures.rest other.ensures.rest)
