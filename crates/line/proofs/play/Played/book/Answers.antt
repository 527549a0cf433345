-- A booking by plain numbers. Assumes nothing.
use Rattle.std.proofs.Common.{Err, refl, ap, ◌∙◌}
use Rattle.std.proofs.lemmas.Result.{err_from_is_err_and}
use Rattle.line.proofs.Booking.{does_longer, called_booking}
use Rattle.line.proofs.Calling.{called_quietly, settled_ok, settled_err}
use Rattle.line.proofs.play.Played.book.Goals as goal

pub returns : goal.returns
returns g c =
    let b = rw (settled_ok c.book-booked.result _ _ c.in_ok-written.was c.map_err.ensures.cases) at
    c.book-booked.ensures in
    let more = c.extend_from_slice.ensures in
    called_booking g.P.Plan.whole g.P.Plan.rest c.args.self.now
    c.extend_from_slice.new.self c.book-booked.new.self c.args.numbers _ c.args.length
    c.min-lent.result c.in_ok-written.written _ c.book-booked.new.memory _ _ b.does b.memory
    c.with.ensures refl c.min-lent.ensures c.book-booked.auto.memory more.items more.succeeds
    c.requires more.capacity

pub returns-in_err-written : goal.returns-in_err-written
returns-in_err-written g c =
    let p = err_from_is_err_and c.from_residual.result c.from_residual.ensures.1 in
    let e = settled_err c.book-booked.result _ _ c.in_err-written.was c.map_err.ensures.cases in
    let m = c.book-booked.new.self in
    called_quietly g.P.Plan.whole g.P.Plan.rest c.args.self.now _ _ _ _ m refl (p.1 ∙ ap Err p.2) tt
    (does_longer g.P.Plan.whole g.P.Plan.rest c.args.self.now.line m c.args.numbers _
    c.args.length c.min-lent.result _ _ (rw e.1 at c.book-booked.ensures).does c.with.ensures refl
    c.min-lent.ensures)
