-- What a lot plan admits, and what remains of it. Assumes nothing.
use Rattle.std.specs.Prelude.{ℕ, vec_items}
use Rattle.keypad.specs.Entries.{Entries}
use Rattle.plans.specs.declared.lot.LotPlan.{LotPlan}
use Rattle.plans.specs.Lots.{listed, listed_after, Begins}

-- all the entries of the plan
abbrev pub lot_whole : LotPlan → Entries
lot_whole p = listed (vec_items p.lots) p.width

-- what remains of those that begin with the digits pressed since the last rewind
abbrev pub lot_rest : LotPlan → Entries
lot_rest p = listed_after (vec_items p.lots) p.width p.taken p.prefix

-- some lot of the plan begins with so many digits that write the value
abbrev pub LotBegins : LotPlan → ℕ → ℕ → Type 0
LotBegins p t v = Begins (vec_items p.lots) p.width t v
