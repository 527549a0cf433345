-- The parts, one behind another. Assumes nothing.
use Rattle.std.proofs.Common.{ℕ, List, [], ◌∷◌, ◌++◌, vec_items, codes, sym, refl, ap, ◌∙◌, rules}
use Rattle.keypad.specs.declared.key.KeyEvent.{KeyEvent}
use Rattle.key_record.specs.declared.answer.Reply.{Reply}
use Rattle.key_record.specs.Letters.{report_line}
use Rattle.line_parts.specs.declared.report.Report.{Report}
use Rattle.play_report.specs.Sides.{report_by, shown_by}
use Rattle.play_report.specs.Words.{told_all, reply_line, reply_lines, report_lines_lem, entry_line, ahead_line}
use Rattle.play_report.proofs.Told.{joined-++, report_told, told_map}
use Rattle.play_report.proofs.tell.add_side.Goals as goal

pub returns : goal.returns
returns c ok =
    let a = shown_by c.args.side.now in
    let start = vec_items c.args.out.now in
    let listed = vec_items c.extend_from_slice.new.self in
    let written = vec_items c.extend_from_slice-2.new.self in
    let lined = vec_items c.extend_from_slice-3.new.self in
    let entered = vec_items c.add_text.new.out in
    let replies = c.in_ok-add_each.ensures reply_line (λ x t p. search rules) refl
    ∙ ap (λ (l : List Reply). start ++ reply_lines l) c.deref.ensures.value in
    let reports = c.in_ok-add_each-2.ensures report_told (λ x t p. search rules) refl
    ∙ (ap (λ (l : List Report). listed ++ told_all report_told l) c.deref-2.ensures.value
    ∙ ap (λ (l : List ℕ). listed ++ l) (sym (told_map (λ r. report_line r.dial r.ending) report_by _))) in
    let lines = c.in_ok-extend_from_slice-3.ensures.items
    ∙ ap (λ (l : List ℕ). written ++ l) c.deref-3.ensures.value in
    let entry = c.in_ok-add_text.ensures refl ∙ ap (λ (l : List ℕ). lined ++ l) c.entry_text.ensures in
    let ahead = c.add_ahead.ensures ok ∙ ap (λ (l : List KeyEvent). entered ++ ahead_line l) c.events.ensures in
    let keys : List ℕ = entry_line a.entry ++ ahead_line a.ahead in
    let behind : List ℕ = a.lines ++ keys in
    joined-++ start (reply_lines a.replies) _ replies
    (joined-++ _ (codes "reports" ++ 10 ∷ []) _ c.in_ok-extend_from_slice.ensures.items
    (joined-++ _ (report_lines_lem a.reports) _ reports
    (joined-++ _ (codes "written" ++ 10 ∷ []) behind c.in_ok-extend_from_slice-2.ensures.items
    (joined-++ _ a.lines keys lines
    (joined-++ _ (entry_line a.entry) (ahead_line a.ahead) entry ahead)))))
