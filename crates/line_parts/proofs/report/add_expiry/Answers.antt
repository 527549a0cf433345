-- Nothing is added unless a timer brought the report. Assumes nothing.
use Rattle.std.proofs.Common.{◌≡◌, [], ◌++◌, sym, refl, ap, ◌∙◌}
use Rattle.key_record.specs.declared.ending.Trigger.{Trigger}
use Rattle.key_record.specs.declared.ending.Trigger.TheVariants.{Press, Extra, Expiry}
use Rattle.key_record.specs.declared.timer.Timer.{Timer}
use Rattle.key_record.specs.Letters.{expiry_text}
use Rattle.line_parts.specs.Texts.{text_of, cut}
use Rattle.line_parts.proofs.Texts.{added_nil}
use Rattle.line_parts.proofs.report.add_expiry.Goals as goal

no_expiry : (t : Trigger) → ((x : Timer) → t ≡ Expiry x → ⊥) → expiry_text t ≡ []
no_expiry Press never = refl
no_expiry (Extra y) never = refl
no_expiry (Expiry x) never = absurd (never x refl)

pub returns-in_default : goal.returns-in_default
returns-in_default c =
    let t = c.args.text.now in
    added_nil t ∙ ap (λ l. cut (text_of t ++ l)) (sym (no_expiry c.args.trigger c.in_default.not-Expiry))
