-- Each form by its length and its first byte. Assumes nothing.
use Rattle.std.proofs.Common.{Some, arith, ltb-false, ltb-true}
use Rattle.commands.specs.declared.command.Command.TheVariants.{Close}
use Rattle.commands.specs.Written.Writes.{close}
use Rattle.commands.proofs.Written.{found_by_places}
use Rattle.commands.proofs.read.read_command.Goals as goal

ruleset tested = (arith, ltb-true, ltb-false)

pub returns-in-99 : goal.returns-in-99
returns-in-99 c =
    found_by_places c.args.bytes.now 0 99 (Some Close) (omega tested) (omega tested) close
