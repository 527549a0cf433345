-- The parts of the line, the last of them first. Assumes nothing.
use Rattle.std.proofs.Common.{ℕ, List, [], ◌∷◌, ◌++◌, codes, ap, ◌∙◌, arith}
use Rattle.std.proofs.lemmas.List.{take_all}
use Rattle.key_record.specs.Letters.{dial_text, expiry_text, method_text, extra_text, report_line}
use Rattle.key_record.proofs.Letters.{report_length}
use Rattle.line_parts.specs.Dialled.{dialled}
use Rattle.line_parts.specs.Texts.{text_of, cut}
use Rattle.line_parts.proofs.Texts.{added-++}
use Rattle.line_parts.proofs.report.Report.text.Goals as goal

pub returns : goal.returns
returns c =
    let d = dialled c.args.self.now.dial in
    let e = c.args.self.now.ending in
    let labelled = text_of c.push_all-2.new.self in
    let method = c.push_all-3.ensures ∙ ap (λ m. cut (labelled ++ m)) c.method_letters.ensures in
    let extra : List ℕ = extra_text e.trigger ++ 10 ∷ [] in
    let behind : List ℕ = method_text e.method ++ extra in
    let label : List ℕ = codes ",meth=" ++ behind in
    let expiry : List ℕ = expiry_text e.trigger ++ label in
    added-++ _ (codes "ds=") (dial_text d ++ expiry) c.push_all.ensures
    (added-++ _ (dial_text d) expiry c.add_dial.ensures
    (added-++ _ (expiry_text e.trigger) label c.add_expiry.ensures
    (added-++ _ (codes ",meth=") behind c.push_all-2.ensures
    (added-++ _ (method_text e.method) extra method
    (added-++ _ (extra_text e.trigger) (10 ∷ []) c.add_extra.ensures c.push.ensures)))))
    ∙ (ap (λ t. cut (t ++ report_line d e)) c.new-text.ensures
    ∙ take_all 85 (report_line d e) (report_length d e (omega arith)))
