-- Sets of entries, and what remains of them. Assumes nothing.
use Rattle.std.specs.Prelude.{List, [], ◌∷◌, Bool, false, ◌⊎◌}
use Rattle.keypad.specs.declared.key.Symbol.{Symbol}
use Rattle.keypad.specs.declared.key.Mark.{Mark}
use Rattle.keypad.specs.Entries.{Step, Entry, Entries, step, ended, prepend}

-- no entry at all
abbrev pub Empty : Entries → Type 0
Empty a = (e : Entry) → a e → ⊥

-- the same entries
abbrev pub Same : Entries → Entries → Type 0
Same a b = (e : Entry) → (a e → b e) × (b e → a e)

-- some entry of the set starts with the symbol
abbrev pub Starts : Entries → Symbol → Type 0
Starts a s = (m : Mark) × (e : Entry) × a (prepend (step s m) e)

-- what remains of those that start with the symbol, that step removed
abbrev pub After : Entries → Symbol → Entries
After a s e = (m : Mark) × a (prepend (step s m) e)

-- what remains of those that begin with the symbols, in order
abbrev pub Remains : Entries → List Symbol → Entries
Remains a [] = a
Remains a (s ∷ ss) = Remains (After a s) ss

-- some entry has no steps left
abbrev pub Ended : Entries → Type 0
Ended a = (m : Mark) × (h : Bool) × a (ended m h)

-- some entry has no steps left and is not held
abbrev pub Settled : Entries → Type 0
Settled a = (m : Mark) × a (ended m false)

-- some entry has steps left
abbrev pub GoesOn : Entries → Type 0
GoesOn a = (s : Step) × (e : Entry) × a (prepend s e)

-- some entry awaits its next step, or else its end, under the mark
abbrev pub Under : Entries → Mark → Type 0
Under a m = ((s : Symbol) × (e : Entry) × a (prepend (step s m) e)) ⊎ ((h : Bool) × a (ended m h))
