-- What is told of a row of keys. Assumes nothing.
use Rattle.std.specs.Prelude.{◌≡◌, ℕ, Bool, true, false, List, [], ◌∷◌, ◌++◌}
use Rattle.keypad.specs.Entries.{Entries}
use Rattle.keypad.specs.Sets.{After}
use Rattle.keypad.specs.declared.key.Symbol.{Symbol}
use Rattle.plan_report.specs.Keys.{KeyTold}

-- what is left behind a symbol: if it was taken, what remains of the entries that start with it
abbrev pub following : Entries → Symbol → Bool → Entries
following a s true = After a s
following a s false = a

-- bs has the lines of a row of keys, one behind another, where at first the entries a are left
abbrev pub RowTold : Entries → List Symbol → List ℕ → Type 0
RowTold a [] bs = bs ≡ []
RowTold a (s ∷ ss) bs =
    (taken : Bool) × (x : List ℕ) × (y : List ℕ) × KeyTold a (following a s taken) s x
    × RowTold (following a s taken) ss y × (bs ≡ x ++ y)
