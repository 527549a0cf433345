-- The parts of the line, which fit a text. Assumes nothing.
use Rattle.std.proofs.Common.{ℕ, cond, List, [], ◌∷◌, ◌++◌, codes, ap, ◌∙◌, arith}
use Rattle.std.proofs.lemmas.List.{take_all}
use Rattle.key_record.specs.Dials.{fresh}
use Rattle.key_record.specs.Letters.{dial_text}
use Rattle.line_parts.specs.Dialled.{dialled}
use Rattle.line_parts.specs.Texts.{text_of, cut}
use Rattle.line_parts.proofs.Texts.{added-++}
use Rattle.play_report.specs.Words.{open_line}
use Rattle.play_report.proofs.Told.{open_length}
use Rattle.play_report.proofs.words.open_text.Goals as goal

pub returns : goal.returns
returns c =
    let d = dialled c.args.dial in
    let blank : List ℕ = cond (fresh d) [] (32 ∷ []) in
    let led = c.lead.ensures ∙ ap (λ f. cond f [] (32 ∷ [])) c.is_fresh.ensures in
    let word = text_of c.push_all.new.self in
    added-++ _ (codes "entry") (blank ++ (dial_text d ++ 10 ∷ [])) c.push_all.ensures
    (added-++ _ blank (dial_text d ++ 10 ∷ []) (c.push_all-2.ensures ∙ ap (λ l. cut (word ++ l)) led)
    (added-++ _ (dial_text d) (10 ∷ []) c.add_dial.ensures c.push.ensures))
    ∙ (ap (λ t. cut (t ++ open_line d)) c.new-text.ensures
    ∙ take_all 85 (open_line d) (open_length d (omega arith)))
