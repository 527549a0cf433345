-- Keys as they are written. Assumes nothing.
use Rattle.std.specs.Prelude.{◌≡◌, ℕ, ◌+◌, ◌<◌, cond, List, [], ◌∷◌, nat_lt}
use Rattle.keypad.specs.declared.key.Symbol.{Symbol}
use Rattle.keypad.specs.declared.key.Symbol.TheVariants.{Plain, Long}

-- the letter of a key: 0 to 9 and A to F; a question mark for what is no key
abbrev pub letter_of : ℕ → ℕ
letter_of k = cond (nat_lt k 10) (48 + k) (cond (nat_lt k 16) (55 + k) 63)

-- b is the letter of the key k
abbrev pub Letter : ℕ → ℕ → Type 0
Letter b k = (k < 16) × (b ≡ letter_of k)

-- b is the letter of no key
abbrev pub NoLetter : ℕ → Type 0
NoLetter b = (k : ℕ) → Letter b k → ⊥

-- a symbol: the letter of its key, with a Z in front if it is held long
abbrev pub symbol_name : Symbol → List ℕ
symbol_name (Plain k) = letter_of k ∷ []
symbol_name (Long k) = 90 ∷ letter_of k ∷ []
