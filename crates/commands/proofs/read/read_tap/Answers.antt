-- A letter writes a key if it stands for one. Assumes nothing.
use Rattle.commands.specs.Written.Writes.{tap}
use Rattle.commands.proofs.read.read_tap.Goals as goal

pub returns : goal.returns
returns c =
    let found = c.in_ok-key.ensures in
    rw found.1 (tap _ found.0)
