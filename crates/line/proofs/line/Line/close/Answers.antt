-- A report claimed and booked in one go. Assumes nothing.
use Rattle.std.proofs.Common.{arith}
use Rattle.line.proofs.Closing.{book_accepted, closed}
use Rattle.line.proofs.line.Line.close.Goals as goal

pub unwrap-requires : goal.unwrap-requires
unwrap-requires g c =
    book_accepted g.P.Plan.whole g.P.Plan.rest c.args.self.now c.claim.new.self
    c.book.new.self c.in_ok-receipt.receipt c.args.memory.now c.book.new.memory
    (omega arith) c.in_ok-receipt.ensures c.book.result c.book.ensures

pub returns : goal.returns
returns g c =
    closed g.P.Plan.whole g.P.Plan.rest c.args.self.now c.claim.new.self
    c.book.new.self c.in_ok-receipt.receipt c.args.memory.now c.book.new.memory
    (omega arith) c.in_ok-receipt.ensures c.unwrap.result (rw c.unwrap.ensures at c.book.ensures)
