-- A text parted at a byte. Assumes nothing.
use Rattle.std.specs.Prelude.{◌≡◌, ℕ, ◌<◌, List, ◌∷◌, ◌++◌, length, ◌≢◌, slice_index}

-- the byte does not stand before place n
abbrev pub Clear : ℕ → List ℕ → ℕ → Type 0
Clear byte bs n = (k : ℕ) → k < n → slice_index bs k ≢ byte

-- front stands before the first such byte of a text, and rest behind it
pub record Parts (byte : ℕ) (text front rest : List ℕ) : Type 0 where
  pub joined : text ≡ front ++ byte ∷ rest
  pub first : Clear byte text (length front)
