-- What has been written of the symbols. Assumes nothing.
use Rattle.std.proofs.Common.{◌++◌, map, string_bytes}
use Rattle.std.specs.List.{range_with_len}
use Rattle.keypad.specs.declared.key.Symbol.TheVariants.{Plain, Long}
use Rattle.plan_report.specs.Listings.{Listed}
use Rattle.plan_report.proofs.next.open_names.Given as goal

-- the open ones of the keys passed have been written
abbrev pub invariant-plain : goal.invariant-plain
invariant-plain g l = Listed (g.P.Plan.rest l.plan) (map Plain (range_with_len 0 l.key)) (string_bytes l.names)

-- and then those of the keys held long
abbrev pub invariant-long : goal.invariant-long
invariant-long g l =
    Listed (g.P.Plan.rest l.plan) (map Plain (range_with_len 0 16) ++ map Long (range_with_len 0 l.key))
    (string_bytes l.names)
