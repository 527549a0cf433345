-- The number stands behind the word. Assumes nothing.
use Rattle.std.proofs.Common.{decimal}
use Rattle.line_parts.specs.Texts.{text_of}
use Rattle.line_parts.proofs.Texts.{added-++}
use Rattle.play_report.proofs.words.add_counted.Goals as goal

pub returns-clause-after : goal.returns-clause-after
returns-clause-after c =
    added-++ (text_of c.args.text.now) c.args.word.now (decimal c.args.number) c.push_all.ensures
    c.add_number.ensures.after
