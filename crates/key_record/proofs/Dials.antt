-- The characters of a dial string. Assumes nothing.
use Rattle.std.proofs.Common.{◌≡◌, ◌+◌, ◌≤◌, List, [], ◌∷◌, ◌++◌, length, arith}
use Rattle.keypad.specs.declared.key.Symbol.{Symbol}
use Rattle.keypad.specs.declared.key.Symbol.TheVariants.{Plain, Long}
use Rattle.key_record.specs.Dials.{width, chars}

pub width_bounds : (y : Symbol) → (1 ≤ width y) × (width y ≤ 2)
width_bounds (Plain k) = (omega arith, omega arith)
width_bounds (Long k) = (omega arith, omega arith)

pub chars-++ : (d e : List Symbol) → chars (d ++ e) ≡ chars d + chars e
chars-++ [] e = omega arith
chars-++ (y ∷ d) e = let h = chars-++ d e in omega arith

pub chars_push : (d : List Symbol) (y : Symbol) → chars (d ++ y ∷ []) ≡ chars d + width y
chars_push d y = let h = chars-++ d (y ∷ []) in omega arith

-- each symbol has a character at least
pub length_chars : (d : List Symbol) → length d ≤ chars d
length_chars [] = omega arith
length_chars (y ∷ d) =
    let w = width_bounds y in
    let h = length_chars d in
    omega arith
