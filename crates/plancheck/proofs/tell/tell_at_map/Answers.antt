-- The plan has the entries of the map. Assumes nothing.
use Rattle.map_plan.specs.Plans.{whole_of}
use Rattle.plancheck.specs.Makes.{map_entries}
use Rattle.plancheck.specs.Stores.{store_of}
use Rattle.plancheck.proofs.Told.{told_same}
use Rattle.plancheck.proofs.tell.tell_at_map.Goals as goal

pub returns-clause-told : goal.returns-clause-told
returns-clause-told c =
    told_same c.args.row.now (whole_of c.in_ok-map_plan.field-0) (map_entries (store_of c.args.kept.now))
    c.tell_one.result c.in_ok-map_plan.ensures.admits c.tell_one.ensures.told
