-- A text is refused for its length, or by its head, or read on. Assumes nothing.
use Rattle.std.proofs.Common.{rules, Err}
use Rattle.std.proofs.lemmas.Result.{err_from_is_err_and}
use Rattle.digit_map.specs.Reads.{DraftRead}
use Rattle.digit_map.proofs.Reading.{fitting, exact_fault}
use Rattle.digit_map.proofs.read.read_map.Goals as goal

pub returns-then-is_empty : goal.returns-then-is_empty
returns-then-is_empty c =
    let read : DraftRead c.args.text.now (Err c.at.result) = search rules in
    exact_fault c.args.text.now _ read

pub returns-in_err-timers : goal.returns-in_err-timers
returns-in_err-timers c =
    let p = err_from_is_err_and c.from_residual.result c.from_residual.ensures.1 in
    let read : DraftRead c.args.text.now (Err c.in_err-timers.field-0.0) = search rules in
    rw (p.1, p.2) (exact_fault c.args.text.now _ read)

pub read_behind-requires-clause-sized : goal.read_behind-requires-clause-sized
read_behind-requires-clause-sized c = fitting c.args.text.now (search rules) c.if-text-gt2048.false
