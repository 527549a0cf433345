-- The writing of a number in decimal digits, with leading zeros. Assumes nothing.
use Rattle.std.specs.Prelude.{◌≡◌, ℕ, zero, suc, ◌/◌, ◌%◌, ◌^◌, ◌<◌, List, [], ◌∷◌, length}
use Rattle.std.specs.Int.Digits.{number_from_digits, AllBelowBase}

-- the decimal digits of n, with leading zeros to exactly w of them
abbrev pub writing : ℕ → ℕ → List ℕ
writing zero n = []
writing (suc w) n = n / 10 ^ w ∷ writing w (n % 10 ^ w)

-- ds are w decimal digits that read as n
pub record Writes (w n : ℕ) (ds : List ℕ) : Type 0 where
  pub long : length ds ≡ w
  pub digits : AllBelowBase 10 ds
  pub value : number_from_digits 10 ds ≡ n

-- a number that fits w digits is written by its writing, and by no other list
abbrev pub WritingStands : Type 0
WritingStands = (w n : ℕ) → n < 10 ^ w
    → Writes w n (writing w n) × ((ds : List ℕ) → Writes w n ds → ds ≡ writing w n)
