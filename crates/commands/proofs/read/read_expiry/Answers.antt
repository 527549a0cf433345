-- A letter writes an expiry if it stands for a timer. Assumes nothing.
use Rattle.commands.specs.Written.Writes.{expire}
use Rattle.commands.proofs.read.read_expiry.Goals as goal

pub returns : goal.returns
returns c = rw c.in_ok-timer_of.ensures (expire _)
