use Rattle.std.proofs.Common.{arith, lit<, pow_mono}
use Rattle.std.proofs.lemmas.Nat.{one_shl, shl_whole, pow-add}
use Rattle.digit_map.proofs.set.keys_between.Goals as goal

pub overflow_sub-result : goal.overflow_sub-result
overflow_sub-result c =
    let l = one_shl c.args.low 16 (omega arith) in
    let h = shl_whole 2 2 c.args.high 16 (lit< tt) (omega arith) in
    let m = pow_mono {i = c.args.low} {j = c.args.high} c.requires.0 in
    omega arith

pub returns : goal.returns
returns c =
    let l = one_shl c.args.low 16 (omega arith) in
    let h = shl_whole 2 2 c.args.high 16 (lit< tt) (omega arith) in
    let a = pow-add 2 c.args.high 1 in
    omega arith
