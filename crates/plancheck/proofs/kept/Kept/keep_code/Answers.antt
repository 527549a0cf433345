-- The code is kept. Assumes nothing.
use Rattle.std.proofs.Common.{vec_items, refl}
use Rattle.plancheck.specs.Replies.{CodeLine, coded}
use Rattle.plancheck.specs.Stores.{store_of}
use Rattle.plancheck.proofs.Replies.{replied}
use Rattle.plancheck.proofs.kept.Kept.keep_code.Goals as goal

pub returns-clause-gives : goal.returns-clause-gives
returns-clause-gives c =
    replied (CodeLine (store_of c.args.self.now) c.args.text.now) _ _ _ _
    c.new.ensures.bytes refl
    (coded (vec_items c.in_ok-self.field-0) c.in_ok-self.ensures)
