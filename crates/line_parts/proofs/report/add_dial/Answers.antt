-- One symbol after the other. Assumes nothing.
use Rattle.std.proofs.Common.{◌++◌, get_or, take, sym, ap, ◌∙◌}
use Rattle.std.proofs.lemmas.List.{append_assoc, flat_map_more, take_more}
use Rattle.keypad.specs.declared.key.Symbol.TheVariants.{Plain}
use Rattle.key_record.specs.Letters.{symbol_text, dial_text}
use Rattle.line_parts.specs.Texts.{text_of, cut}
use Rattle.line_parts.proofs.Texts.{added_nil, added-++}
use Rattle.line_parts.proofs.report.add_dial.Goals as goal

pub loop-symbol-init : goal.loop-symbol-init
loop-symbol-init c = added_nil c.args.text.now

pub loop-symbol-preserved : goal.loop-symbol-preserved
loop-symbol-preserved c =
    let t = text_of c.args.text.now in
    let d = c.symbols-symbol-items.result.now in
    let i = c.loop-symbol.symbol-index in
    let y = get_or d i (Plain 0) in
    added-++ t (dial_text (take i d)) (symbol_text y) c.loop-symbol.invariant c.add_symbol.ensures
    ∙ ap cut (sym (append_assoc t (dial_text (take i d)) (symbol_text y)) ∙ flat_map_more symbol_text t (take i d) y)
    ∙ ap (λ d. cut (t ++ dial_text d)) (sym (take_more d i (Plain 0) c.loop-symbol-test.true))
