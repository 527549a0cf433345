-- A bit is set. Assumes nothing.
use Rattle.std.proofs.Common.{arith}
use Rattle.std.proofs.lemmas.Nat.{one_shl, mod_below}
use Rattle.map_plan.proofs.Members.{bit_set}
use Rattle.map_plan.proofs.places.Places.add.Goals as goal

pub returns : goal.returns
returns c k =
    let i = c.args.place in rw (one_shl _ 64 (mod_below i 64 (omega arith))) (bit_set _ i k (omega arith))
