-- What is written behind a string. Assumes nothing.
use Rattle.std.specs.Prelude.{◌≡◌, ℕ, List, ◌++◌, OnOk, string_bytes, Result, String}

module _ {Z X Y : Type 0} where
  -- where memory did not lack, bs stands behind what stood there before
  abbrev pub Adds : String Z → Result X Y → List ℕ → String Z → Type 0
  Adds before r bs after = OnOk r (string_bytes after ≡ string_bytes before ++ bs)
