-- The spaces are as many as the bytes before take, and the caret follows. Assumes nothing.
use Rattle.std.proofs.Common.{◌≡◌, length, ap, ◌∙◌}
use Rattle.map_report.specs.Escapes.{shown, caret}
use Rattle.map_report.proofs.Escapes.{blanks}
use Rattle.map_report.proofs.escape.write_caret.Goals as goal

pub returns : goal.returns
unfolding caret
returns c =
    let filled = rw c.new-margin.ensures.bytes at c.in_ok-write_text.ensures in
    let width : c.len-width.result ≡ length (shown c.args.before.now) =
    c.len-width.ensures ∙ c.write_text.new.out.bytes.ok.0 ∙ ap length filled in
    rw (← width) (rw (c.laid_out.ensures, blanks) at c.write.ensures.bytes)
