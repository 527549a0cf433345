-- Entries: complete key sequences with their timing. Assumes nothing.
use Rattle.std.specs.Prelude.{List, [], ◌∷◌, Bool}
use Rattle.keypad.specs.declared.key.Symbol.{Symbol}
use Rattle.keypad.specs.declared.key.Mark.{Mark}

-- a symbol, and the mark in force while it is awaited
pub record Step : Type 0 where
  pub symbol : Symbol
  pub mark : Mark

-- the steps, and the closing: the mark in force at the end, and whether the entry is held there. What remains
-- of an entry may have no steps left; no map and no plan has such an entry
pub record Entry : Type 0 where
  pub steps : List Step
  pub closing : Mark
  pub held : Bool

-- a set of entries
abbrev pub Entries : Type 1
Entries = Entry → Type 0

abbrev pub step : Symbol → Mark → Step
step s m = record { symbol = s; mark = m }

-- an entry with no steps left
abbrev pub ended : Mark → Bool → Entry
ended m h = record { steps = []; closing = m; held = h }

-- an entry with a step in front
abbrev pub prepend : Step → Entry → Entry
prepend s e = record { steps = s ∷ e.steps; closing = e.closing; held = e.held }
