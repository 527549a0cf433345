-- How a fault of a map's text is told. Assumes nothing.
use Rattle.std.specs.Prelude.{ℕ, List, [], ◌∷◌, ◌++◌, codes, decimal}
use Rattle.digit_map.specs.declared.fault.Fault.{Fault}
use Rattle.digit_map.specs.Faults.{cause_number}

-- the line `map 3 at 3 alternative 2` and its line feed, of three numbers
abbrev pub line : ℕ → ℕ → ℕ → List ℕ
line c o n =
    codes "map " ++ (decimal c ++ (codes " at " ++ (decimal o ++ (codes " alternative "
    ++ (decimal n ++ 10 ∷ [])))))

-- a fault is told by its cause's number, its offset and its alternative
unfoldable pub told : Fault → List ℕ
told f = line (cause_number f.cause) f.offset f.alternative
