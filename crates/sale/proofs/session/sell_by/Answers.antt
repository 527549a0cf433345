-- A sale by its map. Assumes nothing.
use Rattle.std.proofs.Common.{vec_items, sym, subst}
use Rattle.std.proofs.result.Match.{if_ok_then}
use Rattle.keypad.specs.Sets.{Same}
use Rattle.digit_map.specs.Maps.{places}
use Rattle.digit_map.specs.Meaning.{MapEntry}
use Rattle.map_plan.specs.Plans.{whole_of}
use Rattle.map_report.specs.Lines.{lines}
use Rattle.sale.proofs.Moving.{map_sold}
use Rattle.sale.proofs.session.sell_by.Goals as goal

pub returns-in-Ok : goal.returns-in-Ok
returns-in-Ok c =
    let same = subst (λ p. Same (whole_of p) (MapEntry (places c.in-Ok.map)))
    (sym c.new-line.ensures.plan)
    c.new.ensures.whole in
    if_ok_then c.obey_lines-out.result _ _ (λ out told. map_sold c.args.text.now c.in-Ok.map
    (whole_of c.new-line.result.plan) c.timers-timers.result (lines c.args.commands.now)
    (vec_items out) c.in-Ok.ensures same c.timers-timers.ensures
    (told 1 c.new-line.ensures.state))
    c.obey_lines-out.ensures
