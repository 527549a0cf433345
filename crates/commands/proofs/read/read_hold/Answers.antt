-- A letter and two digits write a key with its duration. Assumes nothing.
use Rattle.std.proofs.Common.{◌/◌, ◌%◌}
use Rattle.commands.proofs.Written.{hold_written, hold_parts}
use Rattle.commands.proofs.read.read_hold.Goals as goal

pub returns-in_err-digit_of : goal.returns-in_err-digit_of
returns-in_err-digit_of c =
    let none = c.in_err-digit_of.ensures in
    rw c.from_residual-in_err-digit_of.ensures (λ x w. none ((hold_parts w).1 / 10) (hold_parts w).3)

pub returns-in_err-digit_of-2 : goal.returns-in_err-digit_of-2
returns-in_err-digit_of-2 c =
    let none = c.in_err-digit_of-2.ensures in
    rw c.from_residual-in_err-digit_of-2.ensures (λ x w. none ((hold_parts w).1 % 10) (hold_parts w).4)

pub returns : goal.returns
returns c =
    let letter = c.in_ok-key.ensures in
    let tens = c.in_ok-digit_of.ensures in
    let units = c.in_ok-digit_of-2.ensures in
    rw c.from-tenths.ensures (hold_written _ _ _ letter tens units)
