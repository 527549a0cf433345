-- The numbers of what is refused at the making of a plan. Assumes nothing.
use Rattle.std.specs.Prelude.{ℕ}
use Rattle.plans.specs.declared.refusal.Refusal.{Refusal}
use Rattle.plans.specs.declared.refusal.Refusal.TheVariants.{CodeLength, CodeKey, Width, Lots}

abbrev pub refusal_number : Refusal → ℕ
refusal_number CodeLength = 60
refusal_number CodeKey = 61
refusal_number Width = 62
refusal_number Lots = 63
