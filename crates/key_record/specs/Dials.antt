-- A dial string: the symbols pressed since the arming. Assumes nothing.
use Rattle.std.specs.Prelude.{ℕ, ◌+◌, Bool, true, false, List, [], ◌∷◌}
use Rattle.keypad.specs.declared.key.Symbol.{Symbol}
use Rattle.keypad.specs.declared.key.Symbol.TheVariants.{Plain, Long}

-- the characters of a symbol: its key, and a Z before it if it is long
abbrev pub width : Symbol → ℕ
width (Plain k) = 1
width (Long k) = 2

-- the characters of a dial string
abbrev pub chars : List Symbol → ℕ
chars [] = 0
chars (y ∷ d) = width y + chars d

-- no symbol has been pressed yet
abbrev pub fresh : List Symbol → Bool
fresh [] = true
fresh (y ∷ d) = false
