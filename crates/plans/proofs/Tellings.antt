-- What a plain answer tells. Assumes nothing.
use Rattle.std.proofs.Common.{Bool, true, false, Decides, refl}
use Rattle.std.proofs.lemmas.Bool.{false≢true}
use Rattle.keypad.specs.Answers.{Tells}

-- what decides a fact tells any other that holds exactly with it
pub tells : {P Q : Type 0} (r : Bool) → (P → Q) → (Q → P) → Decides r P → Tells Q r
tells true there back h = ∣ there (h.0 refl) ∣₁
tells false there back h = λ x. false≢true (h.1 (back x))
