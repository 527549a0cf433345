-- How many items a row has. Assumes nothing.
use Rattle.std.proofs.Common.{◌≡◌, ℕ, ◌≤◌, length, arith}
use Rattle.std.proofs.lemmas.List.{length-take-le}
use Rattle.keypad.specs.declared.row.Row.{Row}
use Rattle.keypad.specs.Rows.{listed}

pub length_listed : {T : Type 0} {N : ℕ} → (r : Row T N) → length (listed r) ≡ r.len
length_listed r = length-take-le r.len r.items (omega arith)

pub listed_within : {T : Type 0} {N : ℕ} → (r : Row T N) → length (listed r) ≤ N
listed_within r = let e = length_listed r in omega arith
