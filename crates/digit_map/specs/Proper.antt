-- The places that a map may have. Assumes nothing.
use Rattle.std.specs.Prelude.{Bool, true, false, not, ◌&&◌, List, [], ◌∷◌, Some, None, Option, nat_lt}
use Rattle.digit_map.specs.declared.node.Position.{Position}
use Rattle.digit_map.specs.declared.node.Node.{Node}
use Rattle.digit_map.specs.Meaning.{whole_alternatives}

-- whether an alternative still owes a key behind a place, if it owes one before it; behind an end one is owed
-- anew
abbrev pub owes : Bool → Option Position → Bool
owes b (Some p) = b && p.dotted
owes b None = true

-- a position has a key, and none above 15; at an end no key is owed
abbrev pub proper_at : Bool → Option Position → Bool
proper_at b (Some p) = nat_lt 0 p.keys && nat_lt p.keys 65536
proper_at b None = not b

-- so at every place, where b says that a key is owed before the first
abbrev pub proper_from : Bool → List Node → Bool
proper_from b [] = true
proper_from b (n ∷ ns) = proper_at b n.awaits && proper_from (owes b n.awaits) ns

-- a map has an alternative, its last place is an alternative's end, its positions have keys, and each
-- alternative has a position without a dot
abbrev pub proper : List Node → Bool
proper [] = false
proper (n ∷ ns) = whole_alternatives (n ∷ ns) && proper_from true (n ∷ ns)
