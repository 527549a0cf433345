-- Sets of keys as numbers, one bit to a key. Assumes nothing.
use Rattle.std.specs.Prelude.{ℕ, ◌/◌, ◌%◌, ◌^◌, Bool, ◌==◌}

-- key k is among the keys m
abbrev pub has : ℕ → ℕ → Bool
has m k = m / 2 ^ k % 2 == 1
