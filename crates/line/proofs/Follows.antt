-- A line follows a record of keys, and what a call does to it is a step of the record. Assumes nothing.
use Rattle.std.proofs.Common.{◌≡◌, ℕ, Some, None, Option, sym, refl, ap, ◌∙◌, subst, Result}
use Rattle.keypad.specs.Entries.{Entries}
use Rattle.keypad.specs.Sets.{Same, Remains}
use Rattle.keypad.proofs.Sames.{same_trans, remains_same, remains-++}
use Rattle.key_record.specs.declared.answer.Answer.{Answer}
use Rattle.key_record.specs.declared.call.Call.{Call}
use Rattle.key_record.specs.declared.ending.Phase.TheVariants.{Open}
use Rattle.key_record.specs.declared.refusal.Refusal.{Refusal}
use Rattle.key_record.specs.declared.timer.Timer.{Timer}
use Rattle.key_record.specs.Turns.{still, over}
use Rattle.key_record.specs.States.{State, Running}
use Rattle.key_record.specs.Effects.{Effect, refuses, queues, begins, presses, claims, settles, after, pressed_by, pressed_of, Replies}
use Rattle.key_record.specs.Rules.{Allows}
use Rattle.key_record.specs.Record.{Kept, note, remaining, Steps}
use Rattle.key_record.proofs.Alike.{running_same}
use Rattle.key_record.proofs.Moves.{allows_same, replies_same}
use Rattle.key_record.proofs.Natures.{Nature, nature}
use Rattle.key_record.proofs.Phases.{idle_shut, done_shut, claimed_shut}
use Rattle.line.specs.declared.line.Line.{Line}
use Rattle.line.specs.Does.{Does}
use Rattle.line.specs.Lines.{state_of}

-- the line l stands where the record r of the whole w says; while it is open, its plan has taken the dial
-- string
pub record Follows {X : Type 0} (whole rest : X → Entries) (w : Entries) (l : Line X)
    (r : Kept) : Type 0 where
  pub state : state_of l ≡ r.state
  pub wholly : Same (whole l.plan) w
  pub remains : r.state.phase ≡ Open → Same (rest l.plan) (Remains w r.state.dial)

pub note_state : (r : Kept) (f : Effect) → (note r f).state ≡ after r.state f
note_state r (refuses why) = refl
note_state r (queues k) = refl
note_state r (begins s (still p t)) = refl
note_state r (begins s (over o)) = refl
note_state r (presses (still p t)) = refl
note_state r (presses (over o)) = refl
note_state r (claims e) = refl
note_state r (settles None) = refl
note_state r (settles (Some l)) = refl

-- what remains after an effect, b, where a remained of v, the same entries as w
remains_after : (w v a b : Entries) (st : State) (c : Call) (f : Effect) → Same v w
    → (st.phase ≡ Open → Same a (Remains w st.dial)) → Nature st v a c f
    → Same b (Remains (pressed_of f v a) (pressed_by f)) → (after st f).phase ≡ Open
    → Same b (Remains w (after st f).dial)
remains_after w v a b st c (refuses why) g h n k o = same_trans b a (Remains w st.dial) k (h o)
remains_after w v a b st c (queues e) g h n k o = absurd (n.1 o)
remains_after w v a b st c (begins s (still p t)) g h n k o =
    same_trans b (Remains v p) (Remains w p) k (remains_same v w p g)
remains_after w v a b st c (begins s (over u)) g h n k o = absurd (done_shut _ u.ending refl o)
remains_after w v a b st c (presses (still p t)) g h n k o =
    rw remains-++ (same_trans b (Remains a p) (Remains (Remains w st.dial) p) k
    (remains_same a (Remains w st.dial) p (h n.0)))
remains_after w v a b st c (presses (over u)) g h n k o = absurd (done_shut _ u.ending refl o)
remains_after w v a b st c (claims e) g h n k o = absurd (claimed_shut _ e refl o)
remains_after w v a b st c (settles l) g h n k o = absurd (idle_shut _ refl o)

module _ {X : Type 0} (whole rest : X → Entries) (w : Entries) (l m : Line X) (r : Kept) (c : Call)
    (x : Result Answer Refusal)
    (f : Follows whole rest w l r) (d : Does whole rest l c x m) where
  allowed_here : Allows r.state (whole l.plan) (rest l.plan) c d.effect
  allowed_here = subst (λ st. Allows st (whole l.plan) (rest l.plan) c d.effect) f.state
      d.allowed

  -- the rules allow the call the same effect at the record
  pub allowed_on : Allows r.state w (remaining w r) c d.effect
  allowed_on =
      allows_same r.state (whole l.plan) w (rest l.plan) (remaining w r) f.wholly f.remains c
      d.effect allowed_here

  -- the line after the call follows the record with the call's effect noted
  pub follows_on : Follows whole rest w m (note r d.effect)
  follows_on = record {
    state = d.state ∙ ap (λ st. after st d.effect) f.state ∙ sym (note_state r d.effect);
    wholly = same_trans (whole m.plan) (whole l.plan) w d.same f.wholly;
    remains = subst (λ st. st.phase ≡ Open → Same (rest m.plan) (Remains w st.dial))
        (sym (note_state r d.effect))
        (remains_after w (whole l.plan) (rest l.plan) (rest m.plan) r.state c d.effect
        f.wholly
        f.remains (nature r.state (whole l.plan) (rest l.plan) c d.effect allowed_here)
        d.remains);
  }

  -- and the answer is the record's
  pub answered_on : Replies (remaining w (note r d.effect)) (note r d.effect).state d.effect x
  answered_on =
      let n = note r d.effect in
      replies_same (rest m.plan) (remaining w n) n.state follows_on.remains d.effect x
      (subst (λ st. Replies (rest m.plan) st d.effect x) follows_on.state d.answered)

  -- the call is a step of the record, t being the timer that runs after it
  steps_on : (t : Option (Timer × ℕ)) → Running (state_of m) (rest m.plan) t
      → Steps w r c (record { answer = x; timer = t }) (note r d.effect)
  steps_on t h =
      let n = note r d.effect in
      record {
        effect = d.effect;
        allowed = allowed_on;
        noted = refl;
        answered = answered_on;
        running = running_same n.state (rest m.plan) (remaining w n) follows_on.remains t
            (subst (λ st. Running st (rest m.plan) t) follows_on.state h);
      }

  pub follows_does : (t : Option (Timer × ℕ)) → Running (state_of m) (rest m.plan) t
      → Steps w r c (record { answer = x; timer = t }) (note r d.effect) × Follows whole rest w m
      (note r d.effect)
  follows_does t h = (steps_on t h, follows_on)
