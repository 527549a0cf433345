-- The numbers of what a line refuses. Assumes nothing.
use Rattle.std.specs.Prelude.{ℕ}
use Rattle.key_record.specs.declared.refusal.Refusal.{Refusal}
use Rattle.key_record.specs.declared.refusal.Refusal.TheVariants.{NotIdle, Setting, Reports, Key, Ahead, Dial, NoTimer, OtherTimer, NotDone, Receipt, Memory}

abbrev pub refusal_number : Refusal → ℕ
refusal_number NotIdle = 20
refusal_number Setting = 21
refusal_number Reports = 22
refusal_number Key = 30
refusal_number Ahead = 31
refusal_number Dial = 32
refusal_number NoTimer = 40
refusal_number OtherTimer = 41
refusal_number NotDone = 50
refusal_number Receipt = 51
refusal_number Memory = 52
