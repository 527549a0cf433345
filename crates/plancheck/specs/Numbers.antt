-- Numbers as they are written. Assumes nothing.
use Rattle.std.specs.Prelude.{◌≡◌, ℕ, ◌+◌, ◌-◌, ◌*◌, ◌^◌, ◌<◌, ◌≤◌, List, [], ◌∷◌, ◌++◌, length}
use Rattle.std.specs.List.{AllByRecursion}

-- b is the letter of a decimal digit
abbrev pub Digit : ℕ → Type 0
Digit b = (48 ≤ b) × (b ≤ 57)

-- m is n with the digit b behind it, and 32 bits hold it
pub record Extends (n b m : ℕ) : Type 0 where
  pub digit : Digit b
  pub value : m ≡ n * 10 + (b - 48)
  pub fits : m < 2 ^ 32

-- the number that digits write behind those of n
abbrev pub written : ℕ → List ℕ → ℕ
written n [] = n
written n (b ∷ bs) = written (n * 10 + (b - 48)) bs

-- word is n in decimal, one digit or more, and 32 bits hold it
pub record Decimal (word : List ℕ) (n : ℕ) : Type 0 where
  pub some : 0 < length word
  pub digits : AllByRecursion Digit word
  pub value : written 0 word ≡ n
  pub fits : n < 2 ^ 32

-- bs has these numbers, one or more, with single blanks between them
abbrev pub Numbers : List ℕ → List ℕ → Type 0
Numbers bs [] = ⊥
Numbers bs (n ∷ []) = Decimal bs n
Numbers bs (n ∷ m ∷ ns) =
    (word : List ℕ) × (rest : List ℕ) × Decimal word n × Numbers rest (m ∷ ns) × (bs ≡ word ++ 32 ∷ rest)
