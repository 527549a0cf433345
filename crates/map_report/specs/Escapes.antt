-- How a text is shown to a person. Assumes nothing.
use Rattle.std.specs.Prelude.{ℕ, ◌+◌, ◌-◌, ◌/◌, ◌%◌, cond, ◌&&◌, List, [], ◌∷◌, ◌++◌, length, take, replicate, codes, ◌==◌, nat_le, nat_lt}

-- the digit of a number below 16: 0 to 9 and A to F
abbrev pub hex : ℕ → ℕ
hex n = cond (nat_lt n 10) (48 + n) (65 + (n - 10))

-- a byte by its number in two such digits
abbrev pub numbered : ℕ → List ℕ
numbered b = codes "\\x" ++ hex (b / 16) ∷ hex (b % 16) ∷ []

-- printable ASCII as it stands, but a backslash doubled; a tab as \t, a carriage return as \r, others as \x1B
abbrev pub escape : ℕ → List ℕ
escape b =
    cond (b == 9) (codes "\\t") (cond (b == 13) (codes "\\r") (cond (b == 92) (codes "\\\\")
    (cond (nat_le 32 b && nat_le b 126) (b ∷ []) (numbered b))))

-- each byte of a text
abbrev pub shown : List ℕ → List ℕ
shown [] = []
shown (b ∷ bs) = escape b ++ shown bs

-- a text that is longer than a map can be is cut behind its first 64 bytes
unfoldable pub excerpt : List ℕ → List ℕ
excerpt text = cond (nat_le (length text) 2048) (shown text) (shown (take 64 text) ++ codes " ...")

-- a caret behind as many spaces as the bytes before it take when they are shown
unfoldable pub caret : List ℕ → List ℕ
caret before = replicate (length (shown before)) 32 ++ 94 ∷ []
