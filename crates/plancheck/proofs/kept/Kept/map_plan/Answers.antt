-- The plan is that of the map found. Assumes nothing.
use Rattle.std.proofs.Common.{Option, sym, subst}
use Rattle.digit_map.specs.declared.map.Map.{Map}
use Rattle.keypad.specs.Sets.{Same}
use Rattle.map_plan.specs.Plans.{whole_of}
use Rattle.plancheck.specs.Makes.{mapped}
use Rattle.plancheck.proofs.kept.Kept.map_plan.Goals as goal

pub returns-clause-cases : goal.returns-clause-cases
returns-clause-cases c = (c.in_ok-map.map, c.in_ok-map.ensures.ok_part)

pub returns-clause-admits : goal.returns-clause-admits
returns-clause-admits c =
    subst (λ (o : Option Map). Same (whole_of c.new.result) (mapped o)) (sym c.in_ok-map.ensures.ok_part)
    c.new.ensures.whole
