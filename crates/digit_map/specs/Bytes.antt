-- The bytes of a map's text, by kind. Assumes nothing.
use Rattle.std.specs.Prelude.{ℕ, ◌+◌, ◌-◌, Bool, cond, ◌&&◌, ◌||◌, ◌==◌, nat_le}

-- space, tab, carriage return, line feed
abbrev pub blank : ℕ → Bool
blank b = b == 32 || (b == 9 || (b == 13 || b == 10))

-- a bracket of either kind, a bar or a comma: what a run of blanks may stand next to
abbrev pub joint : ℕ → Bool
joint b = b == 40 || (b == 41 || (b == 91 || (b == 93 || (b == 124 || b == 44))))

abbrev pub within : ℕ → ℕ → ℕ → Bool
within low high b = nat_le low b && nat_le b high

abbrev pub digit : ℕ → Bool
digit b = within 48 57 b

-- a letter, given by its capital, in either case
abbrev pub letter : ℕ → ℕ → Bool
letter c b = b == c || b == c + 32

-- T, S, L or Z
abbrev pub field_letter : ℕ → Bool
field_letter b = letter 84 b || (letter 83 b || (letter 76 b || letter 90 b))

-- A to F in either case
abbrev pub key_letter_lem : ℕ → Bool
key_letter_lem b = within 65 70 b || within 97 102 b

-- the key that such a letter writes
abbrev pub letter_key : ℕ → ℕ
letter_key b = cond (nat_le b 70) (b - 65 + 10) (b - 97 + 10)
