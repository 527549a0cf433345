-- The keys ahead are fed to an entry, one after another. Assumes nothing.
use Rattle.std.proofs.Common.{◌≡◌, ℕ, ◌+◌, ◌<◌, ◌≤◌, List, [], ◌∷◌, ◌++◌, length, get_or, take, drop, None, ap, ◌∙◌, subst, arith}
use Rattle.std.proofs.lemmas.List.{length-drop, take-append-drop, take_more, drop_more, drop_all}
use Rattle.keypad.specs.declared.key.KeyEvent.{KeyEvent}
use Rattle.keypad.specs.declared.key.Symbol.{Symbol}
use Rattle.keypad.specs.Entries.{Entries}
use Rattle.keypad.specs.Sets.{Same, Remains}
use Rattle.keypad.proofs.Rows.{listed_within}
use Rattle.keypad.proofs.Sames.{same_trans, remains_same, remains-++}
use Rattle.key_record.specs.Dials.{chars}
use Rattle.key_record.specs.States.{State}
use Rattle.key_record.specs.Turns.{Turned, Turns, Outcome, still, Fed}
use Rattle.key_record.proofs.Dials.{chars-++}
use Rattle.key_record.proofs.FedOn.{fed_on}
use Rattle.key_record.proofs.Moves.{turns_same}
use Rattle.line_parts.specs.declared.ahead.Ahead.{Ahead}
use Rattle.line_parts.specs.Queued.{queued}
use Rattle.line.specs.declared.line.Line.{Line}
use Rattle.line.specs.Lines.{state_of}
use Rattle.line.specs.Processed.{Processed, turned_symbols, dialled_on}
use Rattle.line.proofs.Endings.{symbols_width, turn_waits}

abbrev pub with_dial : State → List Symbol → State
with_dial st p = record {
  number = st.number;
  phase = st.phase;
  settings = st.settings;
  dial = p;
  ahead = st.ahead;
  count = st.count;
}

-- there is a key with n before it
pub ahead_within : (a : Ahead) (n : ℕ) (k : KeyEvent) → drop n (queued a) ≡ k ∷ drop (n + 1) (queued a)
    → (n < length (queued a)) × (n < 32)
ahead_within a n k h =
    let e = ap length h in
    let d = length-drop n (queued a) in
    let t = listed_within a.events in
    (omega arith, omega arith)

-- of the keys ahead of the line l so many have been fed to its entry, which is still open; m is the line now
pub record Feeding {X : Type 0} (whole rest : X → Entries) (l m : Line X) (fed : ℕ) : Type 0 where
  pub pressed : List Symbol
  pub taken : List KeyEvent
  pub state : state_of m ≡ with_dial (state_of l) pressed
  pub same : Same (whole m.plan) (whole l.plan)
  pub remains : Same (rest m.plan) (Remains (rest l.plan) pressed)
  pub led : Fed l.settings (rest l.plan) [] [] (take fed (queued l.ahead)) (still pressed taken)
  pub narrow : chars pressed ≤ fed + fed

module _ {X : Type 0} (whole rest : X → Entries) where
  module _ (l m : Line X) (fed : ℕ) (f : Feeding whole rest l m fed) where
    pub feeding_remains : (a : Entries) (ys : List Symbol) → Same a (Remains (rest m.plan) ys)
        → Same a (Remains (rest l.plan) (f.pressed ++ ys))
    feeding_remains a ys h =
        rw remains-++ (same_trans a (Remains (rest m.plan) ys) _ h (remains_same _ _ ys f.remains))

    -- what becomes of a key of the line now, told by what remained at first
    pub feeding_turns : (k : KeyEvent) (u : Turned) → Turns m.settings (rest m.plan) k u
        → Turns l.settings (Remains (rest l.plan) f.pressed) k u
    feeding_turns k u t =
        turns_same l.settings (rest m.plan) (Remains (rest l.plan) f.pressed) f.remains k u
        (subst (λ s. Turns s (rest m.plan) k u) (ap (λ (st : State). st.settings) f.state) t)

    -- the keys ks, fed from here on, are fed behind those before them
    feeding_on : (ks qs : List KeyEvent) (out : Outcome) → take fed (queued l.ahead) ++ ks ≡ qs
        → Fed l.settings (rest l.plan) f.pressed f.taken ks out
        → Fed l.settings (rest l.plan) [] [] qs out
    feeding_on ks qs out e x =
        let s = l.settings in
        let a = rest l.plan in
        subst (λ q. Fed s a [] [] q out) e
        (fed_on s a [] f.pressed [] f.taken (take fed (queued l.ahead)) ks out f.led x)

    pub feeding_led : (ks : List KeyEvent) (out : Outcome) → drop fed (queued m.ahead) ≡ ks
        → Fed l.settings (rest l.plan) f.pressed f.taken ks out
        → Fed l.settings (rest l.plan) [] [] (queued l.ahead) out
    feeding_led ks out h =
        let ahead = ap (λ (st : State). st.ahead) f.state in
        let all = take-append-drop fed (queued m.ahead) in
        feeding_on ks (queued l.ahead) out (cc)

    -- the keys ks are those ahead, of which the line now has the same: the next of them, and the end
    module _ (ks : List KeyEvent) (same : ks ≡ queued l.ahead) where
      now : ks ≡ queued m.ahead
      now = let ahead = ap (λ (st : State). st.ahead) f.state in cc

      pub feeding_next : (d : KeyEvent) → fed < length ks
          → drop fed (queued m.ahead) ≡ get_or ks fed d ∷ drop (fed + 1) (queued m.ahead)
      feeding_next d here =
          subst (λ q. drop fed q ≡ get_or ks fed d ∷ drop (fed + 1) q) now (drop_more ks fed d here)

      pub feeding_all : length ks ≤ fed → drop fed (queued m.ahead) ≡ []
      feeding_all past = subst (λ q. drop fed q ≡ []) now (drop_all fed ks past)

    module _ (k : KeyEvent) (at : drop fed (queued m.ahead) ≡ k ∷ drop (fed + 1) (queued m.ahead)) where
      -- one key more
      pub feeding_more : (n : Line X) → Processed whole rest m k None n → Feeding whole rest l n (fed + 1)
      feeding_more n p =
          let ys = turned_symbols p.turned in
          let ahead : queued m.ahead ≡ queued l.ahead = ap (λ (st : State). st.ahead) f.state in
          let here = (ahead_within m.ahead fed k at).0 in
          let d = drop_more (queued m.ahead) fed k here in
          let t = take_more (queued m.ahead) fed k here in
          record {
            pressed = f.pressed ++ ys;
            taken = f.taken ++ k ∷ [];
            state = p.state ∙ ap (λ q. dialled_on q ys) f.state;
            same = same_trans _ _ _ p.same f.same;
            remains = feeding_remains (rest n.plan) ys p.remains;
            led = feeding_on (k ∷ []) (take (fed + 1) (queued l.ahead)) _ (cc)
                (turn_waits l.settings (rest l.plan) f.pressed f.taken k p.turned
                (feeding_turns k p.turned p.turns) p.ended);
            narrow =
                let w = symbols_width p.turned in
                let c = chars-++ f.pressed ys in
                let h = f.narrow in
                omega arith;
          }
