-- A live place is under a mark exactly when some entry awaits a step or its end under it. Assumes nothing.
use Rattle.std.proofs.Common.{rules, true, false}
use Rattle.keypad.specs.declared.key.Mark.TheVariants.{Short, Long}
use Rattle.map_plan.specs.Asking as ask
use Rattle.map_plan.proofs.Answers.{tells_under}
use Rattle.map_plan.proofs.asked.MapPlanPlan.timing.Goals as goal

pub returns-then-any_live : goal.returns-then-any_live
returns-then-any_live c =
    tells_under c.args.self.now true Long (c.if-any_live.ensures (ask.under Long) (λ n r h. search rules))

pub returns-then-any_live-2 : goal.returns-then-any_live-2
returns-then-any_live-2 c =
    let p = c.args.self.now in
    let long = tells_under p false Long (c.if-any_live.ensures (ask.under Long) (λ n r h. search rules)) in
    (long, tells_under p true Short (c.if-any_live-2.ensures (ask.under Short) (λ n r h. search rules)))

pub returns-else-any_live-2 : goal.returns-else-any_live-2
returns-else-any_live-2 c =
    let p = c.args.self.now in
    let long = tells_under p false Long (c.if-any_live.ensures (ask.under Long) (λ n r h. search rules)) in
    (long, tells_under p false Short (c.if-any_live-2.ensures (ask.under Short) (λ n r h. search rules)))
