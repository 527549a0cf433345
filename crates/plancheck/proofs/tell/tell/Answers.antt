-- Each make has the entries of what it is made of. Assumes nothing.
use Rattle.keypad.specs.Entries.{Entries}
use Rattle.plans.specs.LotPlans.{lot_whole}
use Rattle.plancheck.specs.Makes.{lot_entries}
use Rattle.plancheck.specs.Stores.{store_of}
use Rattle.plancheck.proofs.Told.{coded_of, told_of}
use Rattle.plancheck.proofs.tell.tell.Goals as goal

pub returns-in_ok-lot_plan-in-Lots-clause-told : goal.returns-in_ok-lot_plan-in-Lots-clause-told
returns-in_ok-lot_plan-in-Lots-clause-told c =
    told_of c.args.row.now (store_of c.args.kept.now) c.args.make _
    (lot_whole c.in_ok-lot_plan-in-Lots.field-0) c.tell_one.result c.in-Lots.is
    c.in_ok-lot_plan-in-Lots.ensures.admits c.tell_one.ensures.told

pub returns-in_ok-coded-in-CodedLots-clause-told : goal.returns-in_ok-coded-in-CodedLots-clause-told
returns-in_ok-coded-in-CodedLots-clause-told c =
    let k = store_of c.args.kept.now in
    let lots : Entries = lot_whole c.in_ok-lot_plan-in-CodedLots.field-0 in
    told_of c.args.row.now k c.args.make _ _ c.tell_one-in-CodedLots.result c.in-CodedLots.is
    (coded_of k _ lots (lot_entries k) c.in_ok-coded-in-CodedLots.ensures.admits
    c.in_ok-lot_plan-in-CodedLots.ensures.admits) c.tell_one-in-CodedLots.ensures.told
