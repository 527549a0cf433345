-- Two sets of entries side by side, each in force or out. Assumes nothing.
use Rattle.std.specs.Prelude.{Bool, true, false, ◌⊎◌}
use Rattle.keypad.specs.declared.key.Mark.{Mark}
use Rattle.keypad.specs.declared.key.Mark.TheVariants.{Unmarked, Short, Long}
use Rattle.keypad.specs.Entries.{Entries}
use Rattle.keypad.specs.Sets.{Same}
use Rattle.keypad.specs.Sets.{Empty}

-- the entries of the one and those of the other
abbrev pub Either : Entries → Entries → Entries
Either a b e = a e ⊎ b e

-- the entries of a set while it is in, none while it is out
abbrev pub Live : Bool → Entries → Entries
Live true a = a
Live false a = λ _. ⊥

-- two parts whose wholes were a and b make a plan with the whole w and the rest r: the entries of both, all
-- of them left; none exactly where neither has any
pub record Paired (a b w r : Entries) : Type 0 where
  pub whole : Same w (Either a b)
  pub rest : Same r w
  pub barren : Empty a → Empty b → Empty w
  pub first : Empty w → Empty a
  pub second : Empty w → Empty b

-- long over short over unmarked
abbrev pub longer : Mark → Mark → Mark
longer Long n = Long
longer Short Long = Long
longer Short Short = Short
longer Short Unmarked = Short
longer Unmarked n = n
