-- What an arming does, once its keys ahead are fed. Assumes nothing.
use Rattle.std.proofs.Common.{◌≡◌, ℕ, ◌+◌, ◌<◌, cond, [], ◌∷◌, ◌++◌, drop, Some, Option, sym, refl, ap, ◌∙◌, subst, inl, arith, Ok, Result}
use Rattle.keypad.specs.declared.key.KeyEvent.{KeyEvent}
use Rattle.keypad.specs.Entries.{Entries}
use Rattle.keypad.specs.Sets.{Same, Remains}
use Rattle.keypad.proofs.Sames.{same_trans, remains_same}
use Rattle.key_record.specs.declared.answer.Answer.{Answer}
use Rattle.key_record.specs.declared.answer.Answer.TheVariants.{Moved}
use Rattle.key_record.specs.declared.answer.Progress.TheVariants as progress
use Rattle.key_record.specs.declared.call.Call.TheVariants.{Arm}
use Rattle.key_record.specs.declared.ending.Ending.{Ending}
use Rattle.key_record.specs.declared.ending.Phase.TheVariants.{Idle, Open}
use Rattle.key_record.specs.declared.refusal.Refusal.{Refusal}
use Rattle.key_record.specs.declared.timer.Timer.{Timer}
use Rattle.key_record.specs.Bounds.{Lawful}
use Rattle.key_record.specs.Effects.{begins, pressed_by, Progresses}
use Rattle.key_record.specs.States.{State, with_phase, with_ahead, armed, kept_extra, lands, Running}
use Rattle.key_record.specs.Turns.{Outcome, still, over, Fed}
use Rattle.key_record.proofs.Moves.{fed_same}
use Rattle.line_parts.specs.Queued.{queued}
use Rattle.line.specs.declared.line.Line.{Line}
use Rattle.line.specs.Does.{Does}
use Rattle.line.specs.Lines.{state_of}
use Rattle.line.specs.Processed.{Processed, turned_symbols, dialled_on, keeps, finished}
use Rattle.line.proofs.Endings.{extra_at, ended_at, turn_ends, ahead_left}
use Rattle.line.proofs.Feeding.{with_dial, Feeding, feeding_remains, feeding_turns, feeding_led}

-- the line j is idle and may be armed; l is j rewound, with other settings and no symbol pressed
module _ {X : Type 0} (whole rest : X → Entries) (j l : Line X) (idle : j.phase ≡ Idle)
    (lawful : Lawful l.settings.timers) (few : j.count < 999999)
    (begun : with_dial (state_of l) [] ≡ with_ahead (armed (state_of j) l.settings) (queued j.ahead))
    (same_whole : Same (whole l.plan) (whole j.plan))
    (rewound : Same (rest l.plan) (whole j.plan)) where
  -- the plan of the line o, after the arming, is that of m
  arming : (m o : Line X) (out : Outcome) (x : Result Answer Refusal) → o.plan ≡ m.plan
      → Fed l.settings (rest l.plan) [] [] (queued l.ahead) out
      → state_of o ≡ lands (armed (state_of j) l.settings) out
      → Progresses (rest o.plan) (state_of o) out x → Same (whole m.plan) (whole l.plan)
      → Same (rest m.plan) (Remains (rest l.plan) (pressed_by (begins l.settings out)))
      → Does whole rest j (Arm l.settings) x o
  arming m o out x plan fed state answered same remains =
      let s = l.settings in
      let w = whole j.plan in
      let d = pressed_by (begins s out) in
      let led = subst (λ q. Fed s w [] [] q out) (ap (λ (st : State). st.ahead) begun)
      (fed_same s (rest l.plan) w rewound [] [] (queued l.ahead) out fed) in
      record {
        effect = begins s out;
        allowed = inl (idle, inl (lawful, inl (few, (out, led, refl))));
        state = state;
        answered = answered;
        same = subst (λ q. Same (whole q) w) (sym plan) (same_trans _ _ _ same same_whole);
        remains = subst (λ q. Same (rest q) (Remains w d)) (sym plan)
            (same_trans _ _ _ remains (remains_same (rest l.plan) w d rewound));
        unmoved = λ why e. absurd (let z : ◌≡◌ {A = ℕ} 0 1 = cc in omega arith);
      }

  module _ (m : Line X) (fed : ℕ) (f : Feeding whole rest l m fed) where
    -- no key is left ahead, and the line is open
    pub arming_opens : (o : Line X) (v : Option (Timer × ℕ)) → drop fed (queued m.ahead) ≡ []
        → o.plan ≡ m.plan → state_of o ≡ with_phase (with_ahead (state_of m) []) Open
        → Running (state_of o) (rest o.plan) v
        → Does whole rest j (Arm l.settings) (Ok (Moved (progress.Wait v))) o
    arming_opens o v none plan state running =
        let out = still f.pressed f.taken in
        let here = f.state ∙ ap (λ st. with_dial st f.pressed) begun in
        arming m o out (Ok (Moved (progress.Wait v))) plan (feeding_led whole rest l m fed f [] out none refl)
        (state ∙ ap (λ st. with_phase (with_ahead st []) Open) here) (v, running, refl) f.same
        f.remains

    -- a key ended the entry: those behind it stay ahead, and so does the key itself if it is kept
    pub arming_ends : (n o : Line X) (k : KeyEvent) (e : Ending) (off : ℕ)
        → drop fed (queued m.ahead) ≡ k ∷ drop (fed + 1) (queued m.ahead)
        → Processed whole rest m k (Some e) n
        → off ≡ cond (keeps n.settings.disposition e.trigger) fed (fed + 1) → o.plan ≡ n.plan
        → state_of o ≡ finished (with_ahead (state_of n) (drop off (queued n.ahead))) e
        → Does whole rest j (Arm l.settings) (Ok (Moved progress.Done)) o
    arming_ends n o k e off at p h plan state =
        let s = l.settings in
        let ys = turned_symbols p.turned in
        let ks = drop (fed + 1) (queued m.ahead) in
        let turns = feeding_turns whole rest l m fed f k p.turned p.turns in
        let t = turn_ends s (rest l.plan) f.pressed f.taken k ks p.turned e turns p.ended in
        let out = over (ended_at (f.pressed ++ ys) t.0 e k ks) in
        let fed-state = p.state ∙ ap (λ st. dialled_on st ys) f.state in
        let set : n.settings ≡ s = ap (λ st. st.settings) fed-state in
        let ahead : queued n.ahead ≡ queued m.ahead = ap (λ st. st.ahead) p.state in
        let left = ahead_left s.disposition e.trigger fed (queued m.ahead) k at in
        let still-ahead = kept_extra s.disposition (extra_at e.trigger k) ++ (ks ++ []) in
        let stays : drop off (queued n.ahead) ≡ still-ahead = cc in
        let here = fed-state ∙ ap (λ st. with_dial st (f.pressed ++ ys)) begun in
        arming n o out (Ok (Moved progress.Done)) plan (feeding_led whole rest l m fed f (k ∷ ks) out at t.1)
        (state ∙ (ap (λ q. finished (with_ahead (state_of n) q) e) stays
        ∙ ap (λ st. finished (with_ahead st still-ahead) e) here)) refl (same_trans _ _ _ p.same f.same)
        (feeding_remains whole rest l m fed f (rest n.plan) ys p.remains)
