-- Before the deciding token a text can still become an admitted one, with it it cannot. Assumes nothing.
use Rattle.std.proofs.Common.{◌≡◌, ℕ, ◌+◌, ◌≤◌, false, List, [], ◌∷◌, ◌++◌, sym, ap, ◌∙◌, subst, append_assoc, arith}
use Rattle.digit_map.specs.declared.fault.Cause.TheVariants as cause
use Rattle.digit_map.specs.declared.fault.Fault.{Fault}
use Rattle.digit_map.specs.declared.token.Token.{Token}
use Rattle.digit_map.specs.Offsets.{Ascends}
use Rattle.digit_map.specs.Tokens.{tokens}
use Rattle.digit_map.specs.Limits.{Limits, sale}
use Rattle.digit_map.specs.Turns.{State, on, done, bad, start, turn, run}
use Rattle.digit_map.specs.Standing.{Standing}
use Rattle.digit_map.specs.Shows.{Decides}
use Rattle.digit_map.specs.Continues.{bytes_of, Continued, Turning}
use Rattle.digit_map.proofs.Runs.{run_join, run_bad}
use Rattle.digit_map.proofs.WholePass.{whole_pass}
use Rattle.digit_map.proofs.StandPass.{stands_pass}
use Rattle.digit_map.proofs.Exact.{at_start}
use Rattle.digit_map.proofs.Offsets.{tokens_ascend}
use Rattle.digit_map.proofs.Shaped.{Shaped, tokens_shaped, read_to_end_lem}
use Rattle.digit_map.proofs.Decided.{shows_stop, answered}
use Rattle.digit_map.proofs.Placeless.{alike_done, alike_more}
use Rattle.digit_map.proofs.Wider.{wider, Firm, turn_firm}
use Rattle.digit_map.proofs.Flags.{Flagged, tokens_flagged, Fronted, fronted}
use Rattle.digit_map.proofs.Finishes.{ample, rest_of, Finished, finished}
use Rattle.digit_map.proofs.Letters.{follows}

-- the limits of a sale and others on top of them
abbrev above : Limits → Limits
above L = record { positions = L.positions + 255; alternatives = L.alternatives + 64 }

module _ {p : List Token} {q : State} (s : Standing sale p q) where
  -- the limits may be wider
  reads_wider : (L : Limits) → 64 ≤ L.alternatives → 255 ≤ L.positions → run L start p ≡ on q
  reads_wider L h k = stands_pass L s.text (wider sale L h k q.nodes q.spot s.limits)

  module _ (w : Fronted p (rest_of q.spot) false 0) where
    -- the tokens of the bytes that finish the text
    abbrev back : List Token
    back = tokens w.loose w.at (rest_of q.spot)

    whole : (e : Finished q back) → run ample start (w.front ++ back) ≡ done e.0 e.1
    whole e =
        alike_done ample (w.front ++ back) (p ++ back) e.0 e.1
        (alike_more w.front p back w.alike)
        (run_join ample p back start q (reads_wider ample (omega arith) (omega arith)) ∙ e.2)

    continued_by : Finished q back → Continued p
    continued_by e =
        let h : Shaped (w.front ++ back) =
        subst Shaped w.splits (tokens_shaped false 0 (bytes_of p ++ rest_of q.spot)) in
        record {
          more = rest_of q.spot;
          front = w.front;
          back = back;
          splits = w.splits;
          alike = w.alike;
          limits = ample;
          timers = e.0;
          nodes = e.1;
          admitted = (read_to_end_lem ample (w.front ++ back) [] start (at_start ample) h e.0 e.1
              (whole e)).whole;
        }

  -- what is read without fault of a text's tokens can be finished
  continues : (x : Token) (r : List Token) → Shaped (p ++ x ∷ r) → Flagged (p ++ x ∷ r) → Continued p
  continues x r h f =
      let goes : run ample start p ≡ on q = reads_wider ample (omega arith) (omega arith) in
      let w : Fronted p (rest_of q.spot) false 0 =
      fronted p (rest_of q.spot) false 0 (follows ample x r q p start h f goes) in
      continued_by w (finished s.text s.limits w.loose w.at)

  module _ (x : Token) {f : Fault} (e : turn sale q x ≡ bad f) (h : f.cause ≡ cause.Excess → ⊥) where
    -- a token that stops the reader, but not for the limits, does so under any that are wider
    stops_wider : (L : Limits) → 64 ≤ L.alternatives → 255 ≤ L.positions → (ts : List Token) →
        run L start ((p ++ x ∷ []) ++ ts) ≡ bad f
    stops_wider L j k ts =
        let d : turn L q x ≡ bad f =
        subst (λ y. Firm y (turn L q x)) e (turn_firm sale L q.timers q.nodes q.spot x) h in
        ap (run L start) (append_assoc p (x ∷ []) ts)
        ∙ (run_join L p (x ∷ ts) start q (reads_wider L j k) ∙ run_bad L q f x ts d)

    ends : Continued (p ++ x ∷ []) → ⊥
    ends c =
        let L : Limits = above c.limits in
        let few = c.admitted.few in let fits = c.admitted.fits in
        let read : run L start ((p ++ x ∷ []) ++ c.back) ≡ done c.timers c.nodes =
        alike_done L _ (c.front ++ c.back) c.timers c.nodes
        (alike_more (p ++ x ∷ []) c.front c.back (sym c.alike))
        (whole_pass L c.admitted.whole (omega arith) (omega arith)) in
        let z : ◌≡◌ {A = ℕ} 0 1 = cc (read, stops_wider L (omega arith) (omega arith) c.back) in
        omega arith

-- the deciding token stops the reader, with the fault that decides
stopped : (n : ℕ) (ts : List Token) {f : Fault} → Ascends n ts → (d : Decides ts f) →
    turn sale d.place d.here ≡ bad f
stopped n ts {f = f} asc d =
    let g = shows_stop n d.stands d.here d.after (subst (Ascends n) d.is asc) f d.shows in
    let a : run sale start (d.before ++ d.here ∷ d.after) ≡ bad f =
    ap (run sale start) (sym d.is) ∙ answered n ts f asc d in
    let b : run sale start (d.before ++ d.here ∷ d.after) ≡ bad g.0 =
    run_join sale d.before (d.here ∷ d.after) start d.place
    (stands_pass sale d.stands.text d.stands.limits)
    ∙ run_bad sale d.place g.0 d.here d.after g.1 in
    let k : g.0 ≡ f = cc (a, b) in g.1 ∙ ap bad k

pub turning : (text : List ℕ) {f : Fault} (d : Decides (tokens false 0 text) f) → Turning d
turning text d =
    record {
      continued = continues d.stands d.here d.after
          (subst Shaped d.is (tokens_shaped false 0 text))
          (subst Flagged d.is (tokens_flagged text false 0));
      ended = λ h.
          ends d.stands d.here (stopped 0 (tokens false 0 text) (tokens_ascend false 0 text) d) h;
    }
