-- The plan has the entries of the map and of the lots. Assumes nothing.
use Rattle.keypad.specs.Entries.{Entries}
use Rattle.map_plan.specs.Plans.{whole_of}
use Rattle.plans.specs.LotPlans.{lot_whole}
use Rattle.plans.specs.Pairs.{Either}
use Rattle.plancheck.specs.Makes.{map_entries, lot_entries}
use Rattle.plancheck.specs.Stores.{store_of}
use Rattle.plancheck.proofs.Told.{pair_of, told_same}
use Rattle.plancheck.proofs.tell.tell_at_pair.Goals as goal

pub returns-clause-told : goal.returns-clause-told
returns-clause-told c =
    let k = store_of c.args.kept.now in
    let map : Entries = whole_of c.in_ok-map_plan.field-0 in
    let lots : Entries = lot_whole c.in_ok-lot_plan.field-0 in
    told_same c.args.row.now _ (Either (map_entries k) (lot_entries k)) c.tell_one.result
    (pair_of _ map lots (map_entries k) (lot_entries k) c.new-pair.ensures.whole
    c.in_ok-map_plan.ensures.admits c.in_ok-lot_plan.ensures.admits) c.tell_one.ensures.told
