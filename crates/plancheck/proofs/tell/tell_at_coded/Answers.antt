-- The plan has the entries of the map behind the code. Assumes nothing.
use Rattle.keypad.specs.Entries.{Entries}
use Rattle.map_plan.specs.Plans.{whole_of}
use Rattle.plancheck.specs.Makes.{map_entries, coded_entries}
use Rattle.plancheck.specs.Stores.{store_of}
use Rattle.plancheck.proofs.Told.{coded_of, told_same}
use Rattle.plancheck.proofs.tell.tell_at_coded.Goals as goal

pub returns-clause-told : goal.returns-clause-told
returns-clause-told c =
    let k = store_of c.args.kept.now in
    let map : Entries = whole_of c.in_ok-map_plan.field-0 in
    told_same c.args.row.now _ (coded_entries k (map_entries k)) c.tell_one.result
    (coded_of k _ map (map_entries k) c.in_ok-coded.ensures.admits
    c.in_ok-map_plan.ensures.admits) c.tell_one.ensures.told
