-- One call, by its kind. Assumes nothing.
use Rattle.line.proofs.Calling.{called_quietly, moved_as, moved_unbooked}
use Rattle.line.proofs.play.Played.call.Goals as goal

pub returns-in-Arm : goal.returns-in-Arm
returns-in-Arm g c =
    called_quietly g.P.Plan.whole g.P.Plan.rest c.args.self.now _ _ _ _ c.arm.new.self
    c.in-Arm.is (moved_as c.arm.result _ c.map.ensures.cases) (moved_unbooked c.arm.result)
    c.arm.ensures

pub returns-in-Key : goal.returns-in-Key
returns-in-Key g c =
    called_quietly g.P.Plan.whole g.P.Plan.rest c.args.self.now _ _ _ _ c.key.new.self
    c.in-Key.is (moved_as c.key.result _ c.map-in-Key.ensures.cases) (moved_unbooked c.key.result)
    c.key.ensures

pub returns-in-Expire : goal.returns-in-Expire
returns-in-Expire g c =
    called_quietly g.P.Plan.whole g.P.Plan.rest c.args.self.now _ _ _ _ c.expire.new.self
    c.in-Expire.is (moved_as c.expire.result _ c.map-in-Expire.ensures.cases)
    (moved_unbooked c.expire.result) c.expire.ensures
