-- A key of an open line. Assumes nothing.
use Rattle.std.proofs.Common.{◌≡◌, ℕ, ◌≤◌, Bool, true, false, cond, ltb, List, [], ◌∷◌, ◌++◌, length, Some, None, Option, sym, refl, ap, ◌∙◌, subst, inl, arith, Ok, Result}
use Rattle.std.proofs.lemmas.List.{nil_from_length}
use Rattle.keypad.specs.declared.key.KeyEvent.{KeyEvent}
use Rattle.keypad.specs.Entries.{Entries}
use Rattle.keypad.specs.Sets.{Same, Remains}
use Rattle.keypad.proofs.Sames.{same_refl}
use Rattle.key_record.specs.declared.answer.Answer.{Answer}
use Rattle.key_record.specs.declared.answer.Answer.TheVariants.{Moved}
use Rattle.key_record.specs.declared.answer.Progress.TheVariants.{Done, Wait}
use Rattle.key_record.specs.declared.call.Call.{Call}
use Rattle.key_record.specs.declared.call.Call.TheVariants as call
use Rattle.key_record.specs.declared.ending.Ending.{Ending}
use Rattle.key_record.specs.declared.ending.Phase.TheVariants as phase
use Rattle.key_record.specs.declared.refusal.Refusal.{Refusal}
use Rattle.key_record.specs.declared.timer.Timer.{Timer}
use Rattle.key_record.specs.Effects.{presses, pressed_by, Progresses}
use Rattle.key_record.specs.Rules.{Allows, Fits}
use Rattle.key_record.specs.States.{with_phase, with_ahead, lands, Running}
use Rattle.key_record.specs.Turns.{Turned, pressed, Turns, Outcome}
use Rattle.line.specs.declared.line.Line.{Line}
use Rattle.line.specs.Does.{Does}
use Rattle.line.specs.Limits.{most_ahead}
use Rattle.line.specs.Lines.{state_of}
use Rattle.line.specs.Processed.{Processed, turned_symbols, dialled_on, keeps, finished}
use Rattle.line.proofs.Outcomes.{turned_outcome, fed_one, pressed_one, by_still, by_ending, lands_ended}

-- the keys ahead once one more was pushed, if they had a place for it
abbrev pub joined : List KeyEvent → KeyEvent → List KeyEvent
joined ks k = cond (ltb (length ks) 32) (ks ++ k ∷ []) ks

-- two lines with one plan have the same entries
pub same_at : {X : Type 0} (f : X → Entries) {p q : X} → p ≡ q → Same (f p) (f q)
same_at f {q = q} e = subst (λ v. Same (f v) (f q)) (sym e) (same_refl (f q))

pub open_clear : {X : Type 0} (l : Line X) → l.phase ≡ phase.Open → (state_of l).ahead ≡ []
open_clear l stands =
    let few = subst (λ p. length (state_of l).ahead ≤ most_ahead p) stands l.clear in
    nil_from_length (state_of l).ahead (omega arith)

module _ {X : Type 0} (whole rest : X → Entries) (l : Line X) where
  -- a call that brings the open entry to an outcome
  pub does_press : (c : Call) (out : Outcome) (x : Result Answer Refusal) (m : Line X)
      → Allows (state_of l) (whole l.plan) (rest l.plan) c (presses out)
      → state_of m ≡ lands (state_of l) out → Progresses (rest m.plan) (state_of m) out x
      → Same (whole m.plan) (whole l.plan)
      → Same (rest m.plan) (Remains (rest l.plan) (pressed_by (presses out))) → Does whole rest l c x m
  does_press c out x m allowed state answered same remains = record {
    effect = presses out;
    allowed = allowed;
    state = state;
    answered = answered;
    same = same;
    remains = remains;
    unmoved = λ why e. let z : ◌≡◌ {A = ℕ} 0 1 = cc in absurd (omega arith);
  }

  module _ (k : KeyEvent) (stands : l.phase ≡ phase.Open) (small : k.key ≤ 15)
      (fits : Fits (state_of l) (rest l.plan) k) where
    does_turn : (x : Result Answer Refusal) (m : Line X) (u : Turned) → Turns l.settings (rest l.plan) k u
        → state_of m ≡ lands (state_of l) (turned_outcome u k)
        → Progresses (rest m.plan) (state_of m) (turned_outcome u k) x
        → Same (whole m.plan) (whole l.plan)
        → Same (rest m.plan) (Remains (rest l.plan) (turned_symbols u))
        → Does whole rest l (call.Key k) x m
    does_turn x m u turns state answered same remains =
        let a = rest l.plan in
        let out = turned_outcome u k in
        let fed = fed_one l.settings a k u turns in
        does_press (call.Key k) out x m (inl (small, inl (stands, inl (fits, (out, fed, refl))))) state
        answered same (subst (λ d. Same (rest m.plan) (Remains a d)) (pressed_one k u) remains)

    -- the entry goes on
    pub press_on : (m : Line X) (v : Option (Timer × ℕ)) → Processed whole rest l k None m
        → Running (state_of m) (rest m.plan) v → Does whole rest l (call.Key k) (Ok (Moved (Wait v))) m
    press_on m v p running =
        let a = rest l.plan in
        by_still (λ u. Turns l.settings a k u → state_of m ≡ dialled_on (state_of l) (turned_symbols u)
        → Same (rest m.plan) (Remains a (turned_symbols u))
        → Does whole rest l (call.Key k) (Ok (Moved (Wait v))) m)
        (λ y turns state remains. does_turn (Ok (Moved (Wait v))) m (pressed y) turns
        (state ∙ ap (with_phase (dialled_on (state_of l) (y ∷ []))) stands) (v, running, refl) p.same
        remains)
        p.turned p.ended p.turns p.state p.remains

    -- the entry is over: n is the line once the key is fed, f once the report is counted
    module _ (n f : Line X) (e : Ending) (p : Processed whole rest l k (Some e) n)
        (counted : state_of f ≡ finished (state_of n) e) (plan : f.plan ≡ n.plan) where
      reached : state_of f ≡ finished (dialled_on (state_of l) (turned_symbols p.turned)) e
      reached = counted ∙ ap (λ s. finished s e) p.state

      over : (m : Line X) (b : Bool) → b ≡ keeps f.settings.disposition e.trigger → m.plan ≡ f.plan
          → state_of m ≡ with_ahead (state_of f) (cond b (k ∷ (state_of f).ahead) (state_of f).ahead)
          → Does whole rest l (call.Key k) (Ok (Moved Done)) m
      over m b kept whose state =
          let u = p.turned in
          let same-plan = sym (whose ∙ plan) in
          does_turn (Ok (Moved Done)) m u p.turns
          (state ∙ (ap (λ s. with_ahead s (cond b (k ∷ s.ahead) s.ahead)) reached
          ∙ lands_ended (state_of l) k b u e p.ended
          (kept ∙ ap (λ s. keeps s.settings.disposition e.trigger) reached)))
          (by_ending (λ t _. Progresses (rest m.plan) (state_of m) (turned_outcome t k) (Ok (Moved Done)))
          (λ _ _. refl) (λ _ _. refl) u e p.ended)
          (subst (λ q. Same (whole q) (whole l.plan)) same-plan p.same)
          (subst (λ q. Same (rest q) (Remains (rest l.plan) (turned_symbols u))) same-plan p.remains)

      pub press_lost : false ≡ keeps f.settings.disposition e.trigger
          → Does whole rest l (call.Key k) (Ok (Moved Done)) f
      press_lost lost = over f false lost refl refl

      -- an open line has no key ahead, so that the one kept is its first
      pub press_kept : (m : Line X) → true ≡ keeps f.settings.disposition e.trigger → m.plan ≡ f.plan
          → state_of m ≡ with_ahead (state_of f) (state_of m).ahead
          → (state_of m).ahead ≡ joined (state_of f).ahead k → Does whole rest l (call.Key k) (Ok (Moved Done)) m
      press_kept m kept whose others ahead =
          let none : (state_of f).ahead ≡ [] = ap (λ s. s.ahead) reached ∙ open_clear l stands in
          let first : joined (state_of f).ahead k ≡ k ∷ (state_of f).ahead =
          subst (λ ks. joined ks k ≡ k ∷ ks) (sym none) refl in
          over m true kept whose (others ∙ ap (with_ahead (state_of f)) (ahead ∙ first))
