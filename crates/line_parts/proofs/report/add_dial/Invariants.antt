-- The symbols so far are added. Assumes nothing.
use Rattle.std.proofs.Common.{◌≡◌, ◌++◌, take}
use Rattle.key_record.specs.Letters.{dial_text}
use Rattle.line_parts.specs.Texts.{text_of, cut}
use Rattle.line_parts.proofs.report.add_dial.Given as goal

abbrev pub invariant-loop-symbol : goal.invariant-loop-symbol
invariant-loop-symbol l =
    text_of l.text ≡ cut (text_of l.initial.text ++ dial_text (take l.symbol-index l.symbol-items))
