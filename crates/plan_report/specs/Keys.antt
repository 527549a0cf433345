-- What is told of a key. Assumes nothing.
use Rattle.std.specs.Prelude.{◌≡◌, ℕ, Bool, List}
use Rattle.keypad.specs.Answers.{Tells, Pressed}
use Rattle.keypad.specs.Entries.{Entries}
use Rattle.keypad.specs.Sets.{Starts}
use Rattle.keypad.specs.declared.key.Symbol.{Symbol}
use Rattle.plan_report.specs.declared.standing.Standing.{Standing}
use Rattle.plan_report.specs.Listings.{Listed, symbols}
use Rattle.plan_report.specs.Standings.{Stands}
use Rattle.plan_report.specs.Words.{key_line}

-- bs is the line of a key that was answered so, where the entries a are left behind it
pub record LineTold (a : Entries) (s : Symbol) (opens taken : Bool) (bs : List ℕ) : Type 0 where
  pub standing : Standing
  pub stands : Stands a standing
  pub names : List ℕ
  pub next : Listed a symbols names
  pub tells : bs ≡ key_line s opens taken standing names

-- bs is the line of a key: whether it was open before and whether it was taken, and what holds afterwards
pub record KeyTold (before after : Entries) (s : Symbol) (bs : List ℕ) : Type 0 where
  pub opens : Bool
  pub opened : Tells (Starts before s) opens
  pub taken : Bool
  pub pressed : Pressed before s taken after
  pub line : LineTold after s opens taken bs
