-- Keys and symbols as they are written. Assumes nothing.
use Rattle.std.specs.Prelude.{◌≡◌, ℕ, ◌<◌, ◌⊎◌, List, [], ◌∷◌, ◌++◌}
use Rattle.keypad.specs.declared.key.Symbol.{Symbol}
use Rattle.keypad.specs.declared.key.Symbol.TheVariants.{Plain, Long}
use Rattle.keypad.specs.Letters.{Letter, NoLetter, symbol_name}
use Rattle.std.specs.List.{AllByRecursion}

-- n is what a code keeps of the letter b: its key, or 16 if b is the letter of no key
abbrev pub CodeLetter : ℕ → ℕ → Type 0
CodeLetter b n = Letter b n ⊎ (NoLetter b × (n ≡ 16))

-- the symbols of a row, one behind another
abbrev pub spelled : List Symbol → List ℕ
spelled [] = []
spelled (s ∷ ss) = symbol_name s ++ spelled ss

-- a symbol of one of the keys 0 to F
abbrev pub OfKey : Symbol → Type 0
OfKey (Plain k) = k < 16
OfKey (Long k) = k < 16

-- bs begins with the symbol of a key, and rest stands behind it
pub record Begins (bs : List ℕ) (s : Symbol) (rest : List ℕ) : Type 0 where
  pub key : OfKey s
  pub letters : bs ≡ symbol_name s ++ rest

-- bs begins with no symbol of a key
abbrev pub NoSymbol : List ℕ → Type 0
NoSymbol bs = (s : Symbol) (rest : List ℕ) → Begins bs s rest → ⊥

-- bs has the symbols of a row, one behind another, each of them of a key
pub record Spells (bs : List ℕ) (ss : List Symbol) : Type 0 where
  pub letters : bs ≡ spelled ss
  pub keys : AllByRecursion OfKey ss
