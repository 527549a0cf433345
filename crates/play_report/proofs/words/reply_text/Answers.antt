-- The parts of the line, which fit a text. Assumes nothing.
use Rattle.std.proofs.Common.{ℕ, List, [], ◌∷◌, ◌++◌, codes, ap, ◌∙◌, arith, length-append}
use Rattle.std.proofs.lemmas.List.{take_all}
use Rattle.line_parts.specs.Texts.{cut}
use Rattle.line_parts.proofs.Texts.{added-++}
use Rattle.play_report.specs.Words.{answer_words, timer_words, reply_line}
use Rattle.play_report.proofs.words.reply_text.Goals as goal

pub returns : goal.returns
returns c =
    let reply = c.args.reply in
    let answer : List ℕ = answer_words reply.answer in
    let timer : List ℕ = timer_words reply.timer in
    let short = c.add_answer.ensures.bound in
    let brief = c.add_timer.ensures.bound in
    added-++ _ answer (codes " | " ++ (timer ++ 10 ∷ [])) c.add_answer.ensures.after
    (added-++ _ (codes " | ") (timer ++ 10 ∷ []) c.push_all.ensures
    (added-++ _ timer (10 ∷ []) c.add_timer.ensures.after c.push.ensures))
    ∙ (ap (λ t. cut (t ++ reply_line reply)) c.new-text.ensures
    ∙ take_all 85 (reply_line reply) (simp length-append (omega arith)))
