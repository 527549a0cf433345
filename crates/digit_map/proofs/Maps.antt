-- What always holds of a map. Assumes nothing.
use Rattle.std.proofs.Common.{◌≡◌, true}
use Rattle.digit_map.specs.declared.map.Map.{Map}
use Rattle.digit_map.specs.Maps.{places}
use Rattle.digit_map.specs.Proper.{proper}

pub is_proper : (m : Map) → proper (places m) ≡ true
is_proper m = m.proper
