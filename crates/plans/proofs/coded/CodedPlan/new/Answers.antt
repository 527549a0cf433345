-- A code that is taken is put before the rewound part. Assumes nothing.
use Rattle.std.proofs.Common.{◌≡◌, arith}
use Rattle.std.proofs.lemmas.Grind.{common_steps}
use Rattle.keypad.specs.Rows.{listed}
use Rattle.plans.specs.Behind.{made}
use Rattle.plans.proofs.coded.CodedPlan.new.Goals as goal

pub returns : goal.returns
returns g c =
    let code = c.args.code.now in
    let kept : listed c.extend_from_slice.new.self ≡ code = grind (arith, common_steps) in
    made code (listed c.extend_from_slice.new.self) (g.P.Plan.whole c.args.part)
    (g.P.Plan.whole c.rewind.new.self) (g.P.Plan.rest c.rewind.new.self)
    (grind (arith, common_steps), omega arith) c.if-not-are_keys.ensures kept c.rewind.ensures.whole c.rewind.ensures.rest
