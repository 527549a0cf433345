-- Nothing is added unless a key that fitted nowhere brought the report. Assumes nothing.
use Rattle.std.proofs.Common.{◌≡◌, [], ◌++◌, codes, sym, refl, ap, ◌∙◌}
use Rattle.keypad.specs.declared.key.Symbol.{Symbol}
use Rattle.key_record.specs.declared.ending.Trigger.{Trigger}
use Rattle.key_record.specs.declared.ending.Trigger.TheVariants.{Press, Extra, Expiry}
use Rattle.key_record.specs.Letters.{symbol_text, extra_text}
use Rattle.line_parts.specs.Texts.{text_of, cut}
use Rattle.line_parts.proofs.Texts.{added_nil, added-++}
use Rattle.line_parts.proofs.report.add_extra.Goals as goal

no_extra : (t : Trigger) → ((y : Symbol) → t ≡ Extra y → ⊥) → extra_text t ≡ []
no_extra Press never = refl
no_extra (Extra y) never = absurd (never y refl)
no_extra (Expiry x) never = refl

pub returns-in-Extra : goal.returns-in-Extra
returns-in-Extra c =
    let t = text_of c.args.text.now in
    let y = c.in-Extra.symbol in
    added-++ t (codes ",extra=") (symbol_text y) c.push_all.ensures c.add_symbol.ensures
    ∙ ap (λ x. cut (t ++ extra_text x)) (sym c.in-Extra.is)

pub returns-in_default : goal.returns-in_default
returns-in_default c =
    let t = c.args.text.now in
    added_nil t ∙ ap (λ l. cut (text_of t ++ l)) (sym (no_extra c.args.trigger c.in_default.not-Extra))
