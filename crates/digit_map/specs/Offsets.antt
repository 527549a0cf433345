-- The offsets of tokens. Assumes nothing.
use Rattle.std.specs.Prelude.{ℕ, ◌+◌, ◌≤◌, List, [], ◌∷◌}
use Rattle.digit_map.specs.declared.token.Token.{Token}
use Rattle.digit_map.specs.declared.token.Token.TheVariants.{Byte, Gap, End}

-- where a token stands in the text
abbrev pub at_of : Token → ℕ
at_of (Byte b c o) = o
at_of (Gap o) = o
at_of (End o) = o

-- the tokens stand at n or later, each behind the one before it
abbrev pub Ascends : ℕ → List Token → Type 0
Ascends n [] = Unit {0}
Ascends n (t ∷ ts) = (n ≤ at_of t) × Ascends (at_of t + 1) ts
