-- What a dial string is to the plan's entries. Assumes nothing.
use Rattle.std.specs.Prelude.{◌≡◌, false, List, [], ◌∷◌, ◌++◌, map}
use Rattle.keypad.specs.declared.key.Mark.{Mark}
use Rattle.keypad.specs.declared.key.Symbol.{Symbol}
use Rattle.keypad.specs.Entries.{Step, Entry, Entries}

abbrev pub symbols_of : List Step → List Symbol
symbols_of = map (λ (x : Step). x.symbol)

-- the symbols of an entry, in order
abbrev pub symbols : Entry → List Symbol
symbols e = symbols_of e.steps

-- some entry's symbols are the dial string
abbrev pub IsEntry : Entries → List Symbol → Type 0
IsEntry w d = (e : Entry) × w e × (symbols e ≡ d)

-- some entry that is not held has just these symbols
abbrev pub IsSettled : Entries → List Symbol → Type 0
IsSettled w d = (e : Entry) × w e × (symbols e ≡ d) × (e.held ≡ false)

-- some entry begins with the symbols
abbrev pub BeginsEntry : Entries → List Symbol → Type 0
BeginsEntry w d = (e : Entry) × w e × ((more : List Symbol) × (symbols e ≡ d ++ more))

-- some entry begins with the symbols and goes further
abbrev pub GoesFurther : Entries → List Symbol → Type 0
GoesFurther w d = (y : Symbol) × BeginsEntry w (d ++ y ∷ [])

-- the mark of the first of the steps, or else that of the end
abbrev pub next_mark : List Step → Mark → Mark
next_mark [] closing = closing
next_mark (x ∷ xs) closing = x.mark

-- some entry begins with the symbols, and behind them awaits its next step, or else its end, under the mark
abbrev pub AwaitsUnder : Entries → List Symbol → Mark → Type 0
AwaitsUnder w d m = (e : Entry) × w e × ((front : List Step) × (rest : List Step) × (e.steps ≡ front ++ rest)
    × (symbols_of front ≡ d) × (next_mark rest e.closing ≡ m))
