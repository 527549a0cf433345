-- The timer's letter and its seconds. Assumes nothing.
use Rattle.std.proofs.Common.{◌≡◌, [], ◌∷◌, ◌++◌, decimal, ap, ◌∙◌}
use Rattle.line_parts.specs.Texts.{text_of, cut}
use Rattle.line_parts.proofs.Texts.{added-++}
use Rattle.play_report.specs.Words.{timer_words}
use Rattle.play_report.proofs.words.add_timer.Goals as goal

pub returns-in-Some-clause-after : goal.returns-in-Some-clause-after
returns-in-Some-clause-after c =
    let t = text_of c.args.text.now in
    let letter = c.timer_letter.result in
    let seconds = decimal c.from.result in
    let words : letter ∷ 32 ∷ seconds ≡ timer_words c.args.timer =
    rw (c.in-Some.is, c.timer_letter.ensures, c.from.ensures) in
    added-++ t (letter ∷ 32 ∷ []) seconds c.push_all.ensures c.add_number.ensures.after
    ∙ ap (λ l. cut (t ++ l)) words
