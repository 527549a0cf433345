-- A map has an entry. Assumes nothing.
use Rattle.digit_map.specs.Maps.{places}
use Rattle.digit_map.proofs.Maps.{is_proper}
use Rattle.digit_map.proofs.Meanings.{meant}
use Rattle.map_plan.proofs.plan.MapPlan.new.Goals as goal

pub returns-clause-filled : goal.returns-clause-filled
returns-clause-filled c =
    let some = (meant (places c.args.map) (is_proper c.args.map)).some in λ none. none some.0 some.1
