-- Entries that begin with plain, unmarked keys. Assumes nothing.
use Rattle.std.specs.Prelude.{ℕ, List, [], ◌∷◌}
use Rattle.keypad.specs.declared.key.Symbol.TheVariants.{Plain}
use Rattle.keypad.specs.declared.key.Mark.TheVariants.{Unmarked}
use Rattle.keypad.specs.Entries.{Entry, step, prepend}

-- an entry behind keys, each a plain unmarked step
abbrev pub behind : List ℕ → Entry → Entry
behind [] e = e
behind (k ∷ ks) e = prepend (step (Plain k) Unmarked) (behind ks e)
