-- An open digit is taken, and leaves what has it next; any other key changes nothing. Assumes nothing.
use Rattle.std.proofs.Common.{vec_items, arith}
use Rattle.plans.specs.WritingsLemmas.{below_million, below_more_digits}
use Rattle.plans.specs.LotsLemmas.{starts_sound, pressed_plain}
use Rattle.plans.proofs.lot.plan.LotPlanPlan.press.Goals as goal

pub overflow_mul-self : goal.overflow_mul-self
overflow_mul-self c = let p = c.args.self.now in
    omega (arith, below_million p.taken p.prefix (omega arith) p.below)

-- what is taken has room, and is a digit
pub overflow_add-self : goal.overflow_add-self
overflow_add-self c = let p = c.args.self.now in
    let starts = c.continues-taken.ensures.0 c.if-taken.true in
    let known = starts_sound (vec_items p.lots) p.width p.taken p.prefix c.in-Plain.key starts in
    omega (arith, c.from.ensures, known.1, below_million p.taken p.prefix (omega arith) p.below)

pub invariant_of-self : goal.invariant_of-self
invariant_of-self c = let p = c.args.self.now in
    let starts = c.continues-taken.ensures.0 c.if-taken.true in
    let known = starts_sound (vec_items p.lots) p.width p.taken p.prefix c.in-Plain.key starts in
    record {
      few = p.few;
      some = p.some;
      narrow = p.narrow;
      within = omega (arith, known.0);
      below = below_more_digits p.taken p.prefix c.from.result p.below
          (omega (arith, c.from.ensures, known.1));
    }

pub returns-then-taken-clause-rest : goal.returns-then-taken-clause-rest
returns-then-taken-clause-rest c = let p = c.args.self.now in
    pressed_plain (vec_items p.lots) p.width p.taken p.prefix c.from.result c.in-Plain.key c.args.symbol
    c.continues-taken.result c.in-Plain.is c.if-taken.true c.from.ensures
    (c.continues-taken.ensures.0 c.if-taken.true)
