-- A long symbol is a Z and its key. Assumes nothing.
use Rattle.std.proofs.Common.{[], ◌∷◌, ◌++◌, sym, ap, ◌∙◌}
use Rattle.key_record.specs.Letters.{symbol_text}
use Rattle.line_parts.specs.Texts.{text_of, cut}
use Rattle.line_parts.proofs.Texts.{added-++}
use Rattle.line_parts.proofs.report.add_symbol.Goals as goal

pub returns-in-Long : goal.returns-in-Long
returns-in-Long c =
    let t = text_of c.args.text.now in
    let k = c.key_letter-in-Long.result in
    added-++ t (90 ∷ []) (k ∷ []) c.push-in-Long.ensures c.push-in-Long-2.ensures
    ∙ (ap (λ n. cut (t ++ 90 ∷ n ∷ [])) c.key_letter-in-Long.ensures
    ∙ ap (λ y. cut (t ++ symbol_text y)) (sym c.in-Long.is))
