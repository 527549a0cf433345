-- A command that is given to a line. Assumes nothing.
use Rattle.key_record.specs.declared.call.Call.TheVariants.{Arm, Key, Expire}
use Rattle.line_parts.specs.Texts.{text_of}
use Rattle.sale.proofs.Giving.{moved_given, closed_given, declined_given}
use Rattle.sale.proofs.command.give.Goals as goal

pub returns-in-Arm : goal.returns-in-Arm
returns-in-Arm g c =
    moved_given g.P.Plan.whole g.P.Plan.rest c.args.line.now c.arm.new.self
    c.args.timers
    c.args.command c.args.memory.now c.print.new.memory c.print.result (Arm _)
    c.arm.result
    (text_of c.told.result) (rw c.in-Arm.is) c.arm.ensures c.told.ensures c.print.ensures

pub returns-in-Key : goal.returns-in-Key
returns-in-Key g c =
    moved_given g.P.Plan.whole g.P.Plan.rest c.args.line.now c.key.new.self
    c.args.timers
    c.args.command c.args.memory.now c.print-in-Key.new.memory c.print-in-Key.result
    (Key c.in-Key.event) c.key.result (text_of c.told-in-Key.result) (rw c.in-Key.is)
    c.key.ensures c.told-in-Key.ensures c.print-in-Key.ensures

pub returns-in-Expire : goal.returns-in-Expire
returns-in-Expire g c =
    moved_given g.P.Plan.whole g.P.Plan.rest c.args.line.now c.expire.new.self
    c.args.timers
    c.args.command c.args.memory.now c.print-in-Expire.new.memory c.print-in-Expire.result
    (Expire c.in-Expire.timer) c.expire.result (text_of c.told-in-Expire.result)
    (rw c.in-Expire.is) c.expire.ensures c.told-in-Expire.ensures c.print-in-Expire.ensures

pub returns-in-Ok : goal.returns-in-Ok
returns-in-Ok g c =
    closed_given g.P.Plan.whole g.P.Plan.rest c.args.line.now c.close.new.self
    c.args.timers
    c.args.command c.args.memory.now c.close.new.memory c.in-Ok.length c.in-Close.is
    c.in-Ok.ensures

pub returns-in-Err : goal.returns-in-Err
returns-in-Err g c =
    declined_given g.P.Plan.whole g.P.Plan.rest c.args.line.now c.close.new.self
    c.args.timers c.args.command c.args.memory.now c.print-in-Err.new.memory
    c.print-in-Err.result c.in-Close.is c.in-Err.refusal c.close.new.memory
    (text_of c.told-in-Err.result) c.requires c.in-Err.ensures c.told-in-Err.ensures
    c.print-in-Err.ensures
