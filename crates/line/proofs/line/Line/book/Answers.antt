-- A booking. Assumes nothing.
use Rattle.std.proofs.Common.{refl}
use Rattle.line_parts.specs.Texts.{text_of}
use Rattle.line.proofs.Settling.{booked, book_refused, book_short}
use Rattle.line.proofs.line.Line.book.Goals as goal

pub returns-in_default : goal.returns-in_default
returns-in_default g c =
    book_refused g.P.Plan.whole g.P.Plan.rest c.args.self.now c.args.receipt
    c.numbers.result c.numbers.ensures c.args.memory.now c.in_default.ensures

pub returns-in_default-write_to : goal.returns-in_default-write_to
returns-in_default-write_to g c =
    book_short g.P.Plan.whole g.P.Plan.rest c.args.self.now c.args.receipt
    c.numbers.result c.numbers.ensures c.in-Some.ending (text_of c.text.result)
    c.args.memory.now c.write_to.new.memory
    c.in-Some.ensures c.text.ensures c.in_default-write_to.ensures.laid

pub returns : goal.returns
returns g c =
    booked g.P.Plan.whole g.P.Plan.rest c.args.self.now _ refl c.args.receipt
    c.numbers.result c.numbers.ensures refl c.in-Some.ending (text_of c.text.result)
    c.args.memory.now c.write_to.new.memory c.in-Some-write_to.length
    c.in-Some.ensures c.text.ensures c.in-Some-write_to.ensures.laid c.in-Some-write_to.ensures.length
