-- Symbols, answers and marks in words. Assumes nothing.
use Rattle.std.specs.Prelude.{ℕ, Bool, cond, List, [], ◌∷◌, ◌++◌, length, codes, ◌==◌}
use Rattle.keypad.specs.declared.key.Symbol.{Symbol}
use Rattle.keypad.specs.Letters.{letter_of, symbol_name}
use Rattle.keypad.specs.declared.key.Mark.{Mark}
use Rattle.keypad.specs.declared.key.Mark.TheVariants.{Unmarked, Short, Long}
use Rattle.plan_report.specs.declared.standing.Standing.{Standing}

-- the letter of a key: 0 to 9 and A to F; a question mark for what is no key
abbrev pub key_code : ℕ → ℕ
key_code = letter_of

-- a symbol: its key, with a Z in front if it is held long
abbrev pub named : Symbol → List ℕ
named = symbol_name

-- a mark
abbrev pub mark_word : Mark → List ℕ
mark_word Unmarked = codes "none"
mark_word Short = codes "S"
mark_word Long = codes "L"

-- what is told at a key, as `7 open, taken`
unfoldable pub press_words : Symbol → Bool → Bool → List ℕ
press_words s opens taken =
    named s ++ (32 ∷ (cond opens (codes "open") (codes "shut") ++ (codes ", "
    ++ cond taken (codes "taken") (codes "not taken"))))

-- how a plan stands, as `, satisfied, goes on, timing S`
unfoldable pub standing_words : Standing → List ℕ
standing_words s =
    cond s.ended (codes ", satisfied") [] ++ (cond s.settled (codes ", settled") []
    ++ (cond s.going (codes ", goes on") [] ++ (codes ", timing " ++ mark_word s.mark)))

-- a line as `7 open, taken, satisfied, goes on, timing S, next 3 Z4`, and its line feed
unfoldable pub key_line : Symbol → Bool → Bool → Standing → List ℕ → List ℕ
key_line symbol opens taken s names =
    press_words symbol opens taken ++ (standing_words s
    ++ (cond (length names == 0) [] (codes ", next") ++ (names ++ 10 ∷ [])))
