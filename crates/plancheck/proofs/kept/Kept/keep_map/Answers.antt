-- The map is kept, or its fault is told. Assumes nothing.
use Rattle.std.proofs.Common.{refl}
use Rattle.fault_line.specs.Told.{told}
use Rattle.plancheck.specs.Replies.{MapLine, admitted, refused}
use Rattle.plancheck.specs.Stores.{store_of}
use Rattle.plancheck.proofs.Replies.{replied, gives_told}
use Rattle.plancheck.proofs.kept.Kept.keep_map.Goals as goal

pub returns-in-Ok-clause-gives : goal.returns-in-Ok-clause-gives
returns-in-Ok-clause-gives c =
    replied (MapLine (store_of c.args.self.now) c.args.text.now) _ _ _ _
    c.new.ensures.bytes refl
    (admitted c.in-Ok.ensures)

pub returns-in-Err-clause-gives : goal.returns-in-Err-clause-gives
returns-in-Err-clause-gives c =
    gives_told (MapLine (store_of c.args.self.now) c.args.text.now) c.args.self.now
    (told c.in-Err.fault) c.fault_line.result c.fault_line.ensures
    (refused c.in-Err.ensures)
