-- The parts of the line in their order. Assumes nothing.
use Rattle.std.proofs.Common.{◌≡◌, cond, [], codes, length, sym, append_assoc, arith}
use Rattle.std.specs.Prelude.{◌==◌}
use Rattle.plan_report.specs.Words.{press_words, key_line}
use Rattle.plan_report.proofs.words.key_told.Goals as goal

pub returns : goal.returns
unfolding key_line press_words
returns c =
    let opened : c.if-opens.opened.now ≡ cond c.args.opens (codes "open") (codes "shut") = grind arith in
    let pressed : c.if-taken.pressed.now ≡ cond c.args.taken (codes "taken") (codes "not taken") = grind arith in
    let lead : c.if-is_empty.lead.now ≡ cond (length c.args.names.now == 0) [] (codes ", next") = grind arith in
    simp (sym opened, sym pressed, sym lead, append_assoc) c.format.ensures.ok
