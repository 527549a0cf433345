-- Whole texts, and the tokens before a place, are taken as the grammar has them. Assumes nothing.
use Rattle.std.proofs.Common.{◌≡◌, ℕ, ◌+◌, ◌≤◌, Bool, true, false, cond, not, ◌&&◌, List, [], ◌∷◌, ◌++◌, sym, refl, ap, ◌∙◌, append_assoc, arith, Ok}
use Rattle.std.proofs.lemmas.Bool.{cond-false, and_right, not_from_true, both_ways}
use Rattle.std.proofs.lemmas.List.{append-nil}
use Rattle.keypad.specs.declared.key.Mark.{Mark}
use Rattle.keypad.specs.declared.timers.Timers.{Timers}
use Rattle.digit_map.specs.declared.fault.Cause.TheVariants as cause
use Rattle.digit_map.specs.declared.sign.Sign.{Sign}
use Rattle.digit_map.specs.declared.sign.Sign.TheVariants as sign
use Rattle.digit_map.specs.declared.token.Token.{Token}
use Rattle.digit_map.specs.declared.token.Token.TheVariants.{Byte, End}
use Rattle.digit_map.specs.declared.node.Node.{Node}
use Rattle.digit_map.specs.declared.progress.Frame.{Frame}
use Rattle.digit_map.specs.declared.progress.Act.TheVariants.{Halt}
use Rattle.digit_map.specs.Signs.{sign_of}
use Rattle.digit_map.specs.Nodes.{ending, needs_key, count_positions}
use Rattle.digit_map.specs.Limits.{Limits}
use Rattle.digit_map.specs.Acts.{wrong, at_halt, fresh}
use Rattle.digit_map.specs.Turns.{State, Turn, on, done, state, start, frame, in_head, in_alternative}
use Rattle.digit_map.specs.Turns.{turn, turn_head, turn_alternative, acted, halts, run, went}
use Rattle.digit_map.specs.Grammar as g
use Rattle.digit_map.specs.Grammar.{Head, Placed, plain, long, single, set, Elements, none, mark_more}
use Rattle.digit_map.specs.Grammar.{place_more, dot_more, Final, nothing, mark, dot, is_mark, Alternative}
use Rattle.digit_map.specs.Grammar.{elements, Front, bare, opened, barred, Whole, several}
use Rattle.digit_map.specs.Standing.{behind_elements, last_of}
use Rattle.digit_map.proofs.Runs.{run_join, run_step, run_chain}
use Rattle.digit_map.proofs.NodeLaws.{Filled, positions-++}
use Rattle.digit_map.proofs.ElementLaws.{Facts, facts}
use Rattle.digit_map.proofs.HeadPass.{head_pass}
use Rattle.digit_map.proofs.ElementPass.{elements_pass}

-- elements that need a key may end
pub may_halt : {u : List Token} {us : List Node} {m : Mark} {e : Final} → Elements u us m e →
    needs_key us ≡ true → (k o : ℕ) (judged : Bool) →
    at_halt k (behind_elements u us m e) o true judged (last_of e) ≡ Ok Halt
may_halt {u = u} {us = us} {m = m} {e = e} x h k o judged = by u m e (facts x)
  where
    keyed : {A : Type 0} (a b : A) → cond (judged && not (needs_key us)) a b ≡ b
    keyed a b = cond-false _ a b (and_right judged (not (needs_key us)) (not_from_true (needs_key us) h))

    by : (u : List Token) (m : Mark) (e : Final) → Facts e u us →
        at_halt k (behind_elements u us m e) o true judged (last_of e) ≡ Ok Halt
    by u m nothing f = absurd (both_ways (needs_key us) (ap needs_key f.1) h)
    by u m mark f = keyed (wrong k cause.Keyless _) (Ok Halt)
    by u m g.place f = refl
    by u m dot f = keyed (wrong k cause.Keyless _) (Ok Halt)

-- a token with which an alternative without brackets begins
pub record First (L : Limits) (u : List Token) : Type 0 where
  head : Token
  tail : List Token
  is : u ≡ head ∷ tail
  alike : (t : Timers) (k : ℕ) → turn L (state t [] (in_head k)) head
      ≡ turn L (state t [] (in_alternative (frame false 1) fresh)) head

module _ (L : Limits) where
  pub first_token : (b : ℕ) (c : Bool) (o : ℕ) (v : List Token) (s : Sign) → sign_of b c ≡ s →
      ((t : Timers) (k : ℕ) → turn_head L t k s o ≡ turn_alternative L t [] (frame false 1) fresh s o) →
      First L (Byte b c o ∷ v)
  first_token b c o v s e h =
      record {
        head = Byte b c o;
        tail = v;
        is = refl;
        alike = λ t k. ap (λ x. turn_head L t k x o) e
            ∙ (h t k ∙ sym (ap (λ x. turn_alternative L t [] (frame false 1) fresh x o) e));
      }

  first_placed : {w : List Token} {k : ℕ} {l : Bool} → Placed w k l → First L w
  first_placed (plain (single b c o k e)) = first_token b c o [] (sign.Keys k) e (λ t j. refl)
  first_placed (plain (set c o ms x d p)) = first_token 91 c o _ sign.SetOpen refl (λ t j. refl)
  first_placed (long b c o e x) = first_token b c o _ sign.Hold e (λ t j. refl)

  pub first_either : (s w : List Token) → (Filled s → First L s) → (s ≡ [] → First L w) → First L (s ++ w)
  first_either [] w f h = h refl
  first_either (y ∷ s) w f h =
      let x : First L (y ∷ s) = f tt in
      record { head = x.head; tail = x.tail ++ w; is = ap (λ v. v ++ w) x.is; alike = x.alike }

  pub first_element : {u : List Token} {us : List Node} {m : Mark} {e : Final} → Elements u us m e →
      Filled u → First L u
  first_element none h = absurd h
  first_element (mark_more {s = s} x b c o k e) h =
      first_either s (Byte b c o ∷ []) (first_element x)
      (λ _. first_token b c o [] (sign.Timer k) e (λ t j. refl))
  first_element (place_more {s = s} {u = w} x y) h = first_either s w (first_element x) (λ _. first_placed y)
  first_element (dot_more {s = s} x c o) h =
      first_either s (Byte 46 c o ∷ []) (first_element x) (λ z. absurd (empty s z (facts x).0))
    where
      empty : (v : List Token) → v ≡ [] → Filled v → ⊥
      empty [] z f = f
      empty (y ∷ v) z f = let q : ◌≡◌ {A = ℕ} 0 1 = cc in omega arith

  -- behind a head an alternative is read as behind nothing
  bare_pass : {u : List Token} → First L u → (t : Timers) (k : ℕ) →
      run L (state t [] (in_head k)) u ≡ run L (state t [] (in_alternative (frame false 1) fresh)) u
  bare_pass y t k =
      ap (run L (state t [] (in_head k))) y.is
      ∙ (ap (λ w. went L w y.tail) (y.alike t k)
      ∙ sym (ap (run L (state t [] (in_alternative (frame false 1) fresh))) y.is))

  -- where an alternative begins
  abbrev pub Reached : List Token → Timers → Bool → ℕ → List Node → Type 0
  Reached s t true n ns = run L start s ≡ on (state t ns (in_alternative (frame true n) fresh))
  Reached s t false n ns = (k : ℕ) × (run L start s ≡ on (state t [] (in_head k))) × (ns ≡ []) × (n ≡ 1)

  -- an alternative that needs a key is not empty
  needs_filled : {u : List Token} {us : List Node} {m : Mark} {e : Final} → Elements u us m e →
      needs_key us ≡ true → Filled u
  needs_filled {u = u} {us = us} {e = e} x h = by e (facts x)
    where
      by : (e : Final) → Facts e u us → Filled u
      by nothing f = absurd (both_ways (needs_key us) (ap needs_key f.1) h)
      by mark f = f
      by g.place f = f.0
      by dot f = f

  module _ (s : List Token) (t : Timers) (n : ℕ) (ns : List Node) where
    -- tokens of an alternative, whatever stands before it
    pub from_front : (b : Bool) (u : List Token) (q : State) → Reached s t b n ns → (b ≡ false → First L u) →
        run L (state t (ns ++ []) (in_alternative (frame b n) fresh)) u ≡ on q → run L start (s ++ u) ≡ on q
    from_front true u q r f e =
        run_chain L s u start (state t (ns ++ []) (in_alternative (frame true n) fresh)) q
        (r ∙ ap (λ w. on (state t w (in_alternative (frame true n) fresh))) (sym (append-nil ns))) e
    from_front false u q r f e =
        run_chain L s u start (state t [] (in_head r.0)) q r.1
        (bare_pass (f refl) t r.0
        ∙ (ap (λ w. run L (state t (w ++ []) (in_alternative (frame false 1) fresh)) u) (sym r.2)
        ∙ (ap (λ j. run L (state t (ns ++ []) (in_alternative (frame false j) fresh)) u) (sym r.3) ∙ e)))

    pub any_pass : (b : Bool) → {u : List Token} {us : List Node} {m : Mark} {e : Final} →
        Reached s t b n ns → Elements u us m e → Filled u →
        n ≤ L.alternatives → count_positions (ns ++ us) ≤ L.positions →
        run L start (s ++ u) ≡ on (state t (ns ++ us) (in_alternative (frame b n) (behind_elements u us m e)))
    any_pass b {u = u} r x f h k = from_front b u _ r (λ _. first_element x f)
        (elements_pass L t (frame b n) ns x h k)

    -- the token that ends an alternative
    halt_pass : (b : Bool) → {u : List Token} {us : List Node} {m : Mark} {e : Final} → Reached s t b n ns →
        Elements u us m e →
        needs_key us ≡ true → n ≤ L.alternatives → count_positions (ns ++ us) ≤ L.positions →
        (x : Token) (v : List Token) (r : Turn) →
        turn L (state t (ns ++ us) (in_alternative (frame b n) (behind_elements u us m e))) x ≡ r →
        run L start (s ++ (u ++ x ∷ v)) ≡ went L r v
    halt_pass b {u = u} {us = us} {m = m} {e = e} y z h k j x v r q =
        ap (run L start) (sym (append_assoc s u (x ∷ v)))
        ∙ (run_join L (s ++ u) (x ∷ v) start _ (any_pass b y z (needs_filled z h) k j)
        ∙ ap (λ w. went L w v) q)

  -- the places behind an alternative's end
  closing : (t : Timers) (ns us : List Node) (m : Mark) (e : Final) (f : Frame) (s : Sign) →
      halts t ((ns ++ us) ++ ending m (is_mark e) ∷ []) f s
      ≡ halts t (ns ++ (us ++ ending m (is_mark e) ∷ [])) f s
  closing t ns us m e f s = ap (λ w. halts t w f s) (append_assoc ns us (ending m (is_mark e) ∷ []))

  pub without_end : (ns us : List Node) (m : Mark) (h : Bool) →
      count_positions (ns ++ (us ++ ending m h ∷ [])) ≡ count_positions (ns ++ us)
  without_end ns us m h =
      let a = ap count_positions (sym (append_assoc ns us (ending m h ∷ []))) in
      let b = positions-++ (ns ++ us) (ending m h ∷ []) in omega arith

  -- an alternative and the token that ends it
  pub ended_pass : (s : List Token) (t : Timers) (n : ℕ) (ns : List Node) (b : Bool) → Reached s t b n ns →
      {u : List Token} {us : List Node} {m : Mark} {e : Final} →
      Elements u us m e → needs_key us ≡ true → n ≤ L.alternatives →
      count_positions (ns ++ (us ++ ending m (is_mark e) ∷ [])) ≤ L.positions →
      (x : Token) (v : List Token) (g : Sign) (o : ℕ) →
      turn L (state t (ns ++ us) (in_alternative (frame b n) (behind_elements u us m e))) x
      ≡ acted t (ns ++ us) (frame b n) (behind_elements u us m e) g o (Ok Halt) →
      run L start (s ++ (u ++ x ∷ v)) ≡ went L
      (halts t (ns ++ (us ++ ending m (is_mark e) ∷ [])) (frame b n) g) v
  ended_pass s t n ns b r {us = us} {m = m} {e = e} y z h j x v g o q =
      let k : count_positions (ns ++ us) ≤ L.positions = let a = without_end ns us m (is_mark e) in
      omega arith in
      halt_pass s t n ns b r y z h k x v _ (q ∙ closing t ns us m e (frame b n) g)

  pub front_pass : {s : List Token} {t : Timers} {b : Bool} {n : ℕ} {ns : List Node} → Front s t b n ns →
      n ≤ L.alternatives + 1 →
      count_positions ns ≤ L.positions → Reached s t b n ns
  front_pass (bare {k = k} x) h j = (k, head_pass L x, refl, refl)
  front_pass (opened {s = s} {t = t} {k = k} x c o) h j =
      run_step L s (Byte 40 c o) start (state t [] (in_head k)) _ (head_pass L x) refl
  front_pass (barred {s = s} {u = u} {t = t} {n = n} {ns = ns} x (elements {ns = us} {m = m} {e = e} y z) c
      o) h j =
      let i : count_positions ns ≤ L.positions = let a =
      positions-++ ns (us ++ ending m (is_mark e) ∷ []) in omega arith in
      ended_pass s t n ns true (front_pass x (omega arith) i) y z (omega arith) j (Byte 124 c o) [] sign.Bar o
      (ap (acted t (ns ++ us) (frame true n) (behind_elements u us m e) sign.Bar o) (may_halt y z n o true))

  -- a whole text within the limits is read as its map
  pub whole_pass : {ts : List Token} {t : Timers} {ns : List Node} {n : ℕ} → Whole ts t ns n →
      n ≤ L.alternatives → count_positions ns ≤ L.positions →
      run L start ts ≡ done t ns
  whole_pass (g.single {s = s} {u = u} {t = t} {n = n} {ns = ns} x (elements {ns = us} {m = m} {e = e} y z)
      o) h j =
      let i : count_positions ns ≤ L.positions = let a =
      positions-++ ns (us ++ ending m (is_mark e) ∷ []) in omega arith in
      ended_pass s t n ns false (front_pass x (omega arith) i) y z h j (End o) [] sign.End o
      (ap (acted t (ns ++ us) (frame false n) (behind_elements u us m e) sign.End o) (may_halt y z n o true))
  whole_pass (several {s = s} {u = u} {t = t} {n = n} {ns = ns} x (elements {ns = us} {m = m} {e = e} y z) c
      o p) h j =
      let i : count_positions ns ≤ L.positions = let a =
      positions-++ ns (us ++ ending m (is_mark e) ∷ []) in omega arith in
      ended_pass s t n ns true (front_pass x (omega arith) i) y z h j (Byte 41 c o) (End p ∷ []) sign.Close o
      (ap (acted t (ns ++ us) (frame true n) (behind_elements u us m e) sign.Close o) (may_halt y z n o true))
