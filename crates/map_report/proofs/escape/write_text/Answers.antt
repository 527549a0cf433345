-- A turn writes one byte more. Assumes nothing.
use Rattle.std.proofs.Common.{append_assoc}
use Rattle.map_report.proofs.Escapes.{shown_more}
use Rattle.map_report.proofs.escape.write_text.Goals as goal

pub loop-byte-preserved : goal.loop-byte-preserved
loop-byte-preserved c =
    let more = shown_more c.args.text.now c.loop-byte.byte-index c.loop-byte-test.true in
    rw (more, ← append_assoc, ← c.loop-byte.invariant) c.in_ok-write_byte.ensures
