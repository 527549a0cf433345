-- The lines of an input. Assumes nothing.
use Rattle.std.specs.Prelude.{◌≡◌, ℕ, ◌<◌, cond, List, [], ◌∷◌, length, ◌==◌}

-- a byte in front of the first line, or as the only line
abbrev pub in_front : ℕ → List (List ℕ) → List (List ℕ)
in_front b [] = (b ∷ []) ∷ []
in_front b (l ∷ ls) = (b ∷ l) ∷ ls

-- a line ends at a line feed; a last line without one counts, and nothing follows a last line feed
abbrev pub lines : List ℕ → List (List ℕ)
lines [] = []
lines (b ∷ bs) = cond (b == 10) ([] ∷ lines bs) (in_front b (lines bs))

-- l is the first line of an input, and rest has the others
pub record Splits (input l rest : List ℕ) : Type 0 where
  pub split : lines input ≡ l ∷ lines rest
  pub shorter : length rest < length input
