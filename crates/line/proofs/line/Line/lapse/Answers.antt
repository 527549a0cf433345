-- A timer of an open line. Assumes nothing.
use Rattle.std.proofs.Common.{sym, rules}
use denote.Enum.Bare.{differs_true, differs_false}
use Rattle.key_record.specs.contracts.timer.Timer.{the_type}
use Rattle.line.proofs.Lapsing.{lapse_none, lapse_other, lapse_over}
use Rattle.line.proofs.line.Line.lapse.Goals as goal

pub returns-in_default : goal.returns-in_default
returns-in_default g c =
    lapse_none g.P.Plan.whole g.P.Plan.rest c.args.self.now c.args.timer
    c.in_default.ensures

pub returns-then-ne : goal.returns-then-ne
returns-then-ne g c =
    lapse_other g.P.Plan.whole g.P.Plan.rest c.args.self.now c.args.timer
    c.in-Some.running c.in-Some.field-0-1 c.in-Some.ensures
    (differs_true the_type _ _ (sym c.if-ne.ensures))

pub returns : goal.returns
returns g c =
    lapse_over g.P.Plan.whole g.P.Plan.rest c.args.self.now c.args.timer
    c.in-Some.running c.in-Some.field-0-1 c.in-Some.ensures c.finish.new.self
    c.fallen-method.result (differs_false the_type (search rules) _ _ (sym c.if-ne.ensures)) c.fallen-method.ensures
    c.finish.ensures.state c.finish.ensures.plan
