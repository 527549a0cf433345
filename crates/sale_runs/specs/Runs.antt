-- Sales one behind another, each ended by a line of its own. Assumes nothing.
use Rattle.std.specs.Prelude.{◌≡◌, ℕ, ◌+◌, ◌-◌, ◌<◌, ◌≤◌, ◌⊎◌, List, [], ◌∷◌, ◌++◌, length, take, drop, slice_index}
use Rattle.sale.specs.Sales.{Sold}

-- four equals signs and a line feed
abbrev pub mark : List ℕ
mark = 61 ∷ 61 ∷ 61 ∷ 61 ∷ 10 ∷ []

-- a line begins at place n: it is the first, or a line feed stands before it
abbrev pub Begins : List ℕ → ℕ → Type 0
Begins bs n = (n ≡ 0) ⊎ (slice_index bs (n - 1) ≡ 10)

-- a line that ends a sale begins at place n, and rest stands behind it
abbrev pub Marked : List ℕ → ℕ → List ℕ → Type 0
Marked bs n rest = Begins bs n × (drop n bs ≡ mark ++ rest)

-- none begins before place n
abbrev pub Unmarked : List ℕ → ℕ → Type 0
Unmarked bs n = (k : ℕ) (rest : List ℕ) → k < n → Marked bs k rest → ⊥

-- the first line that ends a sale begins at place n, and something stands behind it
pub record First (bs : List ℕ) (n : ℕ) : Type 0 where
  pub fits : n + 5 ≤ length bs
  pub here : (rest : List ℕ) × Marked bs n rest
  pub first : Unmarked bs n

-- one stands before the first line that ends a sale, and rest behind it
pub record Parts (input one rest : List ℕ) : Type 0 where
  pub before : one ≡ take (length one) input
  pub here : Marked input (length one) rest
  pub first : Unmarked input (length one)

-- each sale prints what it has to, and then the line that ended it
pub data Runs : List ℕ → List ℕ → Type 0 where
  ended : (input : List ℕ) → Unmarked input (length input) → Runs input []
  sold : (input one rest out more : List ℕ) → Parts input one rest → Sold one out → Runs rest more →
      Runs input (out ++ (mark ++ more))
