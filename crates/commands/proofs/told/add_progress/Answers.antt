-- The count of keys stands behind its word. Assumes nothing.
use Rattle.std.proofs.Common.{◌++◌, codes, decimal, sym, ap, ◌∙◌}
use Rattle.line_parts.specs.Texts.{text_of, cut}
use Rattle.line_parts.proofs.Texts.{added-++}
use Rattle.commands.specs.Told.{progress_words}
use Rattle.commands.proofs.told.add_progress.Goals as goal

pub returns-in-Ahead-clause-after : goal.returns-in-Ahead-clause-after
returns-in-Ahead-clause-after c =
    let t = text_of c.args.text.now in
    added-++ t (codes "ahead ") (decimal c.in-Ahead.count) c.push_all-in-Ahead.ensures c.add_number.ensures.after
    ∙ ap (λ p. cut (t ++ progress_words p)) (sym c.in-Ahead.is)
