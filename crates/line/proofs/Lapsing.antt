-- A timer of an open line. Assumes nothing.
use Rattle.std.proofs.Common.{◌≡◌, ℕ, Some, None, sym, refl, ap, ◌∙◌, subst, inl, inr, append-nil, arith, Ok, Err}
use Rattle.keypad.specs.Entries.{Entries}
use Rattle.key_record.specs.declared.answer.Answer.TheVariants.{Moved}
use Rattle.key_record.specs.declared.answer.Progress.TheVariants.{Done}
use Rattle.key_record.specs.declared.call.Call.TheVariants.{Expire}
use Rattle.key_record.specs.declared.ending.Method.{Method}
use Rattle.key_record.specs.declared.ending.Trigger.TheVariants.{Expiry}
use Rattle.key_record.specs.declared.refusal.Refusal.TheVariants.{NoTimer, OtherTimer}
use Rattle.key_record.specs.declared.timer.Timer.{Timer}
use Rattle.key_record.specs.Keying.{Falls}
use Rattle.key_record.specs.Rules.{lapsed}
use Rattle.key_record.specs.States.{Running}
use Rattle.key_record.proofs.Singles.{running_single}
use Rattle.line.specs.declared.line.Line.{Line}
use Rattle.line.specs.Does.{Does}
use Rattle.line.specs.Lines.{state_of}
use Rattle.line.specs.Processed.{finished}
use Rattle.line.proofs.Pressing.{same_at, does_press}
use Rattle.line.proofs.Processing.{with_dial}
use Rattle.line.proofs.Refusing.{refusing}

module _ {X : Type 0} (whole rest : X → Entries) (l : Line X) (t : Timer) where
  -- none runs
  pub lapse_none : Running (state_of l) (rest l.plan) None
      → Does whole rest l (Expire t) (Err NoTimer) l
  lapse_none none =
      let never : (v : Timer × ℕ) × Running (state_of l) (rest l.plan) (Some v) → ⊥ = λ r.
      let e = running_single (state_of l) (rest l.plan) None (Some r.0) none r.1 in
      let z : ◌≡◌ {A = ℕ} 0 1 = cc in
      omega arith in
      refusing whole rest l (Expire t) NoTimer (inr (never, refl))

  -- s runs
  module _ (s : Timer) (n : ℕ) (running : Running (state_of l) (rest l.plan) (Some (s, n))) where
    pub lapse_other : (s ≡ t → ⊥) → Does whole rest l (Expire t) (Err OtherTimer) l
    lapse_other other =
        let never : (i : ℕ) × Running (state_of l) (rest l.plan) (Some (t, i)) → ⊥ = λ r.
        let e = running_single (state_of l) (rest l.plan) (Some (s, n)) (Some (t, r.0)) running r.1 in
        let pair : ◌≡◌ {A = Timer × ℕ} (s, n) (t, r.0) = cc in
        other (ap (λ v. v.0) pair) in
        refusing whole rest l (Expire t) OtherTimer (inl (((s, n), running), inr (never, refl)))

    pub lapse_over : (m : Line X) (method : Method) → s ≡ t → Falls (rest l.plan) method
        → state_of m ≡ finished (state_of l) (record { method = method; trigger = Expiry t })
        → m.plan ≡ l.plan → Does whole rest l (Expire t) (Ok (Moved Done)) m
    lapse_over m method same falls state plan =
        let named = subst (λ v. Running (state_of l) (rest l.plan) (Some (v, n))) same running in
        let ended = finished (state_of l) (record { method = method; trigger = Expiry t }) in
        does_press whole rest l (Expire t) (lapsed method t) (Ok (Moved Done)) m
        (inl (((s, n), running), inl ((n, named), (method, falls, refl))))
        (state ∙ ap (with_dial ended) (sym (append-nil (state_of l).dial))) refl
        (same_at whole plan) (same_at rest plan)
