-- One key fed to the entry of a line. Assumes nothing.
use Rattle.std.proofs.Common.{refl, rules}
use Rattle.line.proofs.Processing.{processed_judged, processed_extra}
use Rattle.line.proofs.line.Line.process.Goals as goal

pub returns-in-Some : goal.returns-in-Some
returns-in-Some g c =
    processed_judged g.P.Plan.whole g.P.Plan.rest c.args.self.now c.args.event _
    c.is_held_long-long.result c.is_held_long-long.ensures c.press_key.ensures.whole refl
    c.requires c.in-Some.symbol c.in-Some.ensures.chosen c.push.ensures
    c.in-Some.ensures.rest c.judged.result c.judged.ensures _ c.map.ensures.cases
    (λ method e h. search rules)

pub returns-in-None : goal.returns-in-None
returns-in-None g c =
    processed_extra g.P.Plan.whole g.P.Plan.rest c.args.self.now c.args.event _
    c.is_held_long-long.result c.is_held_long-long.ensures c.press_key.ensures.whole refl
    c.in-None.ensures.chosen refl c.in-None.ensures.rest c.extra-symbol.result
    c.extra-symbol.ensures c.missed.result c.missed.ensures
