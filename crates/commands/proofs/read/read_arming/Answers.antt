-- Two letters write an arming if each of them stands for something. Assumes nothing.
use Rattle.commands.specs.Written.Writes.{arm}
use Rattle.commands.proofs.read.read_arming.Goals as goal

pub returns : goal.returns
returns c =
    rw (c.in_ok-procedure_of.ensures, c.in_ok-disposition_of.ensures) (arm _ _)
