-- Texts that are written with escapes. Assumes nothing.
use Rattle.std.specs.Prelude.{ℕ, Bool, true, false, cond, List, [], ◌∷◌, ◌==◌}

-- t, r and n behind a backslash stand for a tab, a carriage return and a line feed, any other byte for itself
abbrev pub meaning : ℕ → ℕ
meaning b = cond (b == 116) 9 (cond (b == 114) 13 (cond (b == 110) 10 b))

-- the text that is written so, with a backslash before its first byte or without
abbrev pub unescaped : Bool → List ℕ → List ℕ
unescaped e [] = []
unescaped true (b ∷ bs) = meaning b ∷ unescaped false bs
unescaped false (b ∷ bs) = cond (b == 92) (unescaped true bs) (b ∷ unescaped false bs)
