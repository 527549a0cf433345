-- A refused call. Assumes nothing.
use Rattle.std.proofs.Common.{refl, Err}
use Rattle.keypad.specs.Entries.{Entries}
use Rattle.keypad.proofs.Sames.{same_refl}
use Rattle.key_record.specs.declared.call.Call.{Call}
use Rattle.key_record.specs.declared.refusal.Refusal.{Refusal}
use Rattle.key_record.specs.Effects.{refuses}
use Rattle.key_record.specs.Rules.{Allows}
use Rattle.line.specs.declared.line.Line.{Line}
use Rattle.line.specs.Does.{Does}
use Rattle.line.specs.Lines.{state_of}

-- a call that the rules refuse leaves the line as it was
abbrev pub refusing : {X : Type 0} (whole rest : X → Entries) (l : Line X) (c : Call) (why : Refusal)
    → Allows (state_of l) (whole l.plan) (rest l.plan) c (refuses why)
    → Does whole rest l c (Err why) l
refusing whole rest l c why h = record {
  effect = refuses why;
  allowed = h;
  state = refl;
  answered = refl;
  same = same_refl (whole l.plan);
  remains = same_refl (rest l.plan);
  unmoved = λ _ _. refl;
}
