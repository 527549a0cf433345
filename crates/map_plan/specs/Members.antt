-- The places that words of bits hold. Assumes nothing.
use Rattle.std.specs.Prelude.{◌≡◌, ℕ, ◌/◌, ◌%◌, ◌^◌, Bool, ◌&&◌, ◌||◌, List, ◌==◌, slice_index}
use Rattle.map_plan.specs.declared.places.Places.{Places}

-- bit k of words of 64 bits
abbrev pub bit : List ℕ → ℕ → Bool
bit ws k = slice_index ws (k / 64) / 2 ^ (k % 64) % 2 == 1

-- place k is in the set
abbrev pub holds : Places → ℕ → Bool
holds p k = bit p.words k

-- place i is in the set too, if wanted; the others are as they were
abbrev pub Added : Places → ℕ → Bool → Places → Type 0
Added before i wanted after = (k : ℕ) → holds after k ≡ ((wanted && k == i) || holds before k)
