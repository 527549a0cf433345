-- A key of a line that is not open. Assumes nothing.
use Rattle.std.proofs.Common.{◌≡◌, ℕ, ◌<◌, ◌≤◌, length, refl, ap, ◌∙◌, inl, inr, arith, Ok, Err}
use Rattle.std.proofs.lemmas.Bool.{cond-true, lt-ltb}
use Rattle.keypad.specs.declared.key.KeyEvent.{KeyEvent}
use Rattle.keypad.specs.Entries.{Entries}
use Rattle.key_record.specs.declared.answer.Answer.TheVariants.{Moved}
use Rattle.key_record.specs.declared.answer.Progress.TheVariants as progress
use Rattle.key_record.specs.declared.call.Call.TheVariants as call
use Rattle.key_record.specs.declared.ending.Phase.TheVariants.{Open}
use Rattle.key_record.specs.declared.refusal.Refusal.TheVariants as refusal
use Rattle.key_record.specs.Effects.{queues}
use Rattle.key_record.specs.States.{with_ahead}
use Rattle.line.specs.declared.line.Line.{Line}
use Rattle.line.specs.Does.{Does}
use Rattle.line.specs.Lines.{state_of}
use Rattle.line.proofs.Pressing.{same_at, joined}
use Rattle.line.proofs.Refusing.{refusing}

module _ {X : Type 0} (whole rest : X → Entries) (l : Line X) (k : KeyEvent) (shut : l.phase ≡ Open → ⊥)
    (small : k.key ≤ 15) where
  pub queue_full : 32 ≤ length (state_of l).ahead → Does whole rest l (call.Key k) (Err refusal.Ahead) l
  queue_full full = refusing whole rest l (call.Key k) refusal.Ahead
      (inl (small, inr (shut, inr (λ h. omega arith, refl))))

  pub queue_joined : (m : Line X) (n : ℕ) → length (state_of l).ahead < 32 → m.plan ≡ l.plan
      → state_of m ≡ with_ahead (state_of l) (state_of m).ahead
      → (state_of m).ahead ≡ joined (state_of l).ahead k → n ≡ length (state_of m).ahead
      → Does whole rest l (call.Key k) (Ok (Moved (progress.Ahead n))) m
  queue_joined m n room plan others ahead value = record {
    effect = queues k;
    allowed = inl (small, inr (shut, inl (room, refl)));
    state = others ∙ ap (with_ahead (state_of l)) (ahead ∙ cond-true _ _ _ (lt-ltb _ 32 room));
    answered = ap (λ i. Ok (Moved (progress.Ahead i))) value;
    same = same_at whole plan;
    remains = same_at rest plan;
    unmoved = λ why e. let z : ◌≡◌ {A = ℕ} 0 1 = cc in absurd (omega arith);
  }
