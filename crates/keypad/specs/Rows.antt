-- The items of a row, in order. Assumes nothing.
use Rattle.std.specs.Prelude.{ℕ, List, take}
use Rattle.keypad.specs.declared.row.Row.{Row}

abbrev pub listed : {T : Type 0} {N : ℕ} → Row T N → List T
listed r = take r.len r.items
