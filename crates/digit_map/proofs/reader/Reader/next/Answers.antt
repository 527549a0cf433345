use Rattle.std.proofs.lemmas.List.{take_rest}
use Rattle.digit_map.proofs.Gaps.{next_gap, reaches, next_end, next_byte}
use Rattle.digit_map.proofs.reader.Reader.next.Goals as goal

pub returns-in_default-clause-reads : goal.returns-in_default-clause-reads
returns-in_default-clause-reads c = next_gap c.args.self.now.base c.args.self.now.within c.in_default.ensures

pub invariant_of-self : goal.invariant_of-self
invariant_of-self c =
    let r = reaches c.args.self.now.base c.args.self.now.within c.in-Some.ensures in
    record { within = r.high; fits = c.args.self.now.fits }

pub returns-in_default-get-clause-reads : goal.returns-in_default-get-clause-reads
returns-in_default-get-clause-reads c =
    next_end (reaches c.args.self.now.base c.args.self.now.within c.in-Some.ensures)
    c.in_default-get.ensures.lookup.3

pub returns-clause-reads : goal.returns-clause-reads
returns-clause-reads c =
    let r = reaches c.args.self.now.base c.args.self.now.within c.in-Some.ensures in
    let h = c.in-Some-get.ensures.lookup.3 in
    next_byte r h.0 (h.1 0) (rw take_rest at c.begins_field-field.ensures) c.is_joint.ensures
