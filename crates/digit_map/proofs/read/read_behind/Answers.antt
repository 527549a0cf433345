-- The alternatives are read behind the head, and what is read is proper and exact. Assumes nothing.
use Rattle.std.proofs.lemmas.List.{take_rest}
use Rattle.std.proofs.lemmas.Result.{err_from_is_err_and}
use Rattle.digit_map.proofs.Reading.{whole_ok, whole_bad, read_proper, exact_map, exact_fault}
use Rattle.digit_map.proofs.read.read_behind.Goals as goal

pub returns-in_err-read_alternatives : goal.returns-in_err-read_alternatives
returns-in_err-read_alternatives c =
    let p = err_from_is_err_and c.from_residual.result c.from_residual.ensures.1 in
    let text = c.args.text.now in
    let alternatives = rw take_rest at c.in_err-read_alternatives.ensures in
    let read =
    whole_bad text c.args.timers c.args.head c.begin-draft.result c.read_alternatives.new.draft
    c.requires.sized c.requires.head c.begin-draft.ensures.timers alternatives in
    rw (p.1, p.2) (exact_fault text _ read)

pub finish-requires : goal.finish-requires
finish-requires c =
    let text = c.args.text.now in
    let draft = c.read_alternatives.new.draft in
    let alternatives = rw take_rest at c.in_ok-read_alternatives.ensures in
    let read =
    whole_ok text c.args.timers c.args.head c.begin-draft.result draft c.requires.sized
    c.requires.head c.begin-draft.ensures.timers alternatives in
    read_proper text draft read

pub returns : goal.returns
returns c =
    let text = c.args.text.now in
    let draft = c.read_alternatives.new.draft in
    let alternatives = rw take_rest at c.in_ok-read_alternatives.ensures in
    let read =
    whole_ok text c.args.timers c.args.head c.begin-draft.result draft c.requires.sized
    c.requires.head c.begin-draft.ensures.timers alternatives in
    exact_map text draft c.finish.result read c.finish.ensures
