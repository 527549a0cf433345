-- The word, the timer's letter and its seconds, one behind another. Assumes nothing.
use Rattle.std.proofs.Common.{◌≡◌, [], ◌∷◌, ◌++◌, codes, decimal, ap, ◌∙◌}
use Rattle.line_parts.specs.Texts.{text_of, cut}
use Rattle.line_parts.proofs.Texts.{added-++}
use Rattle.commands.specs.Told.{wait_words}
use Rattle.commands.proofs.told.add_wait.Goals as goal

pub returns-in-Some-clause-after : goal.returns-in-Some-clause-after
returns-in-Some-clause-after c =
    let t = text_of c.args.text.now in
    let letter = c.timer_letter.result in
    let behind = 32 ∷ letter ∷ 32 ∷ decimal c.from.result in
    let words : codes "wait" ++ behind ≡ wait_words c.args.wait =
    rw (c.in-Some.is, c.timer_letter.ensures, c.from.ensures) in
    let timer = c.push_all-in-Some.ensures in
    added-++ t (codes "wait") behind c.push_all.ensures
    (added-++ _ (32 ∷ letter ∷ 32 ∷ []) (decimal c.from.result) timer c.add_number.ensures.after)
    ∙ ap (λ l. cut (t ++ l)) words
