-- The numbers of a receipt, one behind the other. Assumes nothing.
use Rattle.std.proofs.Common.{ℕ, List, ◌++◌, Ok, codes, decimal, sym, ap, ◌∙◌}
use Rattle.line_parts.specs.Texts.{text_of, cut}
use Rattle.line_parts.proofs.Texts.{added-++}
use Rattle.std.proofs.lemmas.List.{append_assoc}
use Rattle.play_report.specs.Words.{answer_words}
use Rattle.play_report.proofs.words.add_answer.Goals as goal

pub returns-in-Ok-Claimed-clause-after : goal.returns-in-Ok-Claimed-clause-after
returns-in-Ok-Claimed-clause-after c =
    let t = text_of c.args.text.now in
    let first : List ℕ = decimal c.in-Ok-Claimed.numbers.number in
    let second : List ℕ = codes " " ++ decimal c.in-Ok-Claimed.numbers.count in
    let is = c.in-Ok-Claimed.is ∙ ap Ok (rw c.in-Ok-Claimed.is at c.in-Ok-Claimed.field-0-is) in
    added-++ t (codes "receipt " ++ first) second c.add_counted.ensures.after
    c.add_counted-in-Ok-Claimed.ensures.after
    ∙ (ap (λ l. cut (t ++ l)) (append_assoc (codes "receipt ") first second)
    ∙ ap (λ a. cut (t ++ answer_words a)) (sym is))
