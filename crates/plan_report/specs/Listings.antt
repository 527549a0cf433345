-- The symbols that a plan opens. Assumes nothing.
use Rattle.std.specs.Prelude.{◌≡◌, ℕ, Bool, cond, List, [], ◌∷◌, ◌++◌, map, OnOk, string_bytes, Result, String}
use Rattle.std.specs.List.{range_with_len}
use Rattle.keypad.specs.Answers.{Tells}
use Rattle.keypad.specs.Entries.{Entries}
use Rattle.keypad.specs.Sets.{Starts}
use Rattle.keypad.specs.declared.key.Symbol.{Symbol}
use Rattle.keypad.specs.declared.key.Symbol.TheVariants.{Plain, Long}
use Rattle.plan_report.specs.Words.{named}

-- all symbols: the keys 0 to F, and then the same held long
unfoldable pub symbols : List Symbol
symbols = map Plain (range_with_len 0 16) ++ map Long (range_with_len 0 16)

-- a symbol behind a blank, if it is wanted
abbrev pub named_if : Symbol → Bool → List ℕ
named_if s wanted = cond wanted (32 ∷ named s) []

-- bs names those of the symbols with which some entry starts
abbrev pub Listed : Entries → List Symbol → List ℕ → Type 0
Listed a [] bs = bs ≡ []
Listed a (s ∷ ss) bs =
    (opens : Bool) × (x : List ℕ) × Tells (Starts a s) opens × Listed a ss x × (bs ≡ named_if s opens ++ x)

module _ {Z X Y : Type 0} where
  -- where memory did not lack, the open ones of the symbols stand behind what stood there before
  abbrev pub AddsListed : Entries → List Symbol → String Z → Result X Y → String Z → Type 0
  AddsListed a ss before r after =
      OnOk r ((x : List ℕ) × Listed a ss x × (string_bytes after ≡ string_bytes before ++ x))
