-- One call, noted. Assumes nothing.
use Rattle.std.proofs.Common.{sym, subst}
use Rattle.line.proofs.Noting.{Brought, brought_one, brought_none, noted}
use Rattle.line.proofs.play.Played.note.Goals.{in-Some, in_default}
use Rattle.line.proofs.play.Played.note.Goals as goal

pub returns : goal.returns
returns g c =
    let whole = g.P.Plan.whole in
    let rest = g.P.Plan.rest in
    let p = c.args.self.now in
    let x = c.call-answer.result in
    let q = c.call-answer.new.self in
    let d = c.call-answer.ensures in
    let m = c.match-report_of.self in
    let replies = c.push_reserved-2.ensures in
    let brought = elim c.match-report_of.branch as (λ _. Brought whole rest p c.args.call x m) [
      | in-Some w ↦
          let reports = w.push_reserved.ensures in
          subst (λ n. Brought whole rest p c.args.call x n) (sym w.self-is)
          (brought_one whole rest p c.args.call x q d w.in-Some.report w.in-Some.ensures
          w.push_reserved.new.self reports.items reports.len reports.capacity)
      | in_default w ↦ subst (λ n. Brought whole rest p c.args.call x n) (sym w.self-is)
          (brought_none whole rest p c.args.call x q d w.in_default.ensures)
    ] in
    noted whole rest p c.args.call x m brought c.timer-timer.result c.timer-timer.ensures
    c.push_reserved-2.new.self replies.items replies.len replies.capacity
