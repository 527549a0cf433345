-- What is kept between the lines of an input. Assumes nothing.
use Rattle.std.specs.Prelude.{ℕ, List, [], Some, None, vec_items, Option}
use Rattle.digit_map.specs.declared.map.Map.{Map}
use Rattle.plancheck.specs.declared.kept.Kept.{Kept}

-- the last map, the last lots with their width, and the keys of the last code
pub record Store : Type 0 where
  pub map : Option Map
  pub width : ℕ
  pub lots : List ℕ
  pub code : List ℕ

-- what is kept, by its values
abbrev pub store_of : Kept → Store
store_of k = record { map = k.map; width = k.width; lots = vec_items k.lots; code = vec_items k.code }

-- at first there is no map, the width is 0, and there are no lots and no keys
abbrev pub fresh : Store
fresh = record { map = None; width = 0; lots = []; code = [] }

-- a map takes the place of the one before
abbrev pub with_map : Store → Map → Store
with_map k m = record { map = Some m; width = k.width; lots = k.lots; code = k.code }

-- a width and lots take the place of those before
abbrev pub with_lots : Store → ℕ → List ℕ → Store
with_lots k w ns = record { map = k.map; width = w; lots = ns; code = k.code }

-- a code takes the place of the one before
abbrev pub with_code : Store → List ℕ → Store
with_code k ns = record { map = k.map; width = k.width; lots = k.lots; code = ns }
