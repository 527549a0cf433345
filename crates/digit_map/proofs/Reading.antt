-- A text is read exactly: as its map, or with its fault. Assumes nothing.
use Rattle.std.proofs.Common.{◌≡◌, ℕ, ◌<◌, ◌≤◌, Bool, true, false, ltb, leb, ◌⊎◌, List, [], length, drop, Ok, Err, sym, refl, ap, ◌∙◌, subst, inl, inr, ⊎_elim, arith}
use Rattle.std.proofs.lemmas.Bool.{cond-true, cond-false, and_parts, and_from, and_cases, and_left, and_right, ltb-true, leb-true, ltb-false, leb-false, lt-ltb, le-leb, le-ltb, lt-leb}
use Rattle.keypad.specs.declared.timers.Timers.{Timers}
use Rattle.digit_map.specs.declared.fault.Cause.TheVariants as cause
use Rattle.digit_map.specs.declared.fault.Fault.{Fault}
use Rattle.digit_map.specs.declared.node.Node.{Node}
use Rattle.digit_map.specs.declared.draft.Draft.{Draft}
use Rattle.digit_map.specs.declared.map.Map.{Map}
use Rattle.digit_map.specs.Faults.{fault}
use Rattle.digit_map.specs.Tokens.{tokens}
use Rattle.digit_map.specs.Drafts.{drafted}
use Rattle.digit_map.specs.Proper.{proper}
use Rattle.digit_map.specs.Maps.{places, timers_of}
use Rattle.digit_map.specs.Limits.{sale}
use Rattle.digit_map.specs.Turns.{done, bad, start, run, state, in_head}
use Rattle.digit_map.specs.Reads.{sized, reads, HeadRead, AlternativesRead, DraftRead}
use Rattle.digit_map.specs.Derives.{Derives, FaultOf, by_length, by_token, ReadExactly}
use Rattle.digit_map.proofs.WholePass.{whole_pass}
use Rattle.digit_map.proofs.Exact.{at_start}
use Rattle.digit_map.proofs.Shaped.{tokens_shaped, Ended, read_to_end_lem}
use Rattle.digit_map.proofs.Decided.{decided, answered}
use Rattle.digit_map.proofs.Offsets.{tokens_ascend}
use Rattle.digit_map.proofs.Spaces.{spaces_taken_out}
use Rattle.digit_map.proofs.Misplaced.{gap_misplaced}
use Rattle.digit_map.proofs.Propers.{derived_proper}
use Rattle.digit_map.proofs.Meanings.{meant}
use Rattle.digit_map.proofs.Turning.{turning}

module _ (text : List ℕ) where
  -- a text of a fitting length
  pub fitting : 0 < length text → length text ≤ 2048 → sized text ≡ true
  fitting h k = and_from (ltb 0 (length text)) (leb (length text) 2048) (lt-ltb 0 (length text) h)
      (le-leb (length text) 2048 k)

  fits : sized text ≡ true → (0 < length text) × (length text ≤ 2048)
  fits e = let p = and_parts (ltb 0 (length text)) (leb (length text) 2048) e in
      (ltb-true 0 (length text) p.0, leb-true (length text) 2048 p.1)

  unfit : sized text ≡ false → (length text ≡ 0) ⊎ (2048 < length text)
  unfit e =
      ⊎_elim (λ a. inl (let h = ltb-false 0 (length text) a in omega arith))
      (λ b. inr (leb-false (length text) 2048 b))
      (and_cases (ltb 0 (length text)) (leb (length text) 2048) e)

  unfitting : (length text ≡ 0) ⊎ (2048 < length text) → sized text ≡ false
  unfitting (inl e) = and_left _ _ (le-ltb 0 (length text) (omega arith))
  unfitting (inr h) = and_right (ltb 0 (length text)) _ (lt-leb (length text) 2048 h)

  tokens_read : sized text ≡ true → reads text ≡ run sale start (tokens false 0 text)
  tokens_read e = cond-true _ _ _ e

  -- the head and the alternatives behind it are read, to their end or to a fault
  module _ (ts : Timers) (n : ℕ) (m w : Draft) (e : sized text ≡ true) (h : HeadRead text (Ok (ts, n)))
      (q : m.timers ≡ ts) where
    behind : reads text ≡ run sale (state m.timers [] (in_head 4)) (tokens (ltb 0 n) n (drop n text))
    behind =
        tokens_read e
        ∙ (h.1 ∙ ap (λ t. run sale (state t [] (in_head 4)) (tokens (ltb 0 n) n (drop n text))) (sym q))

    pub whole_ok : {u : Unit {0}} → AlternativesRead (drop n text) n (ltb 0 n) m w (Ok u) →
        DraftRead text (Ok w)
    whole_ok a = behind ∙ (a.1 ∙ ap (λ t. done t (drafted w)) (sym a.0))

    pub whole_bad : {f : Fault} → AlternativesRead (drop n text) n (ltb 0 n) m w (Err f) →
        DraftRead text (Err f)
    whole_bad a = behind ∙ a

  read_derived : (t : Timers) (ns : List Node) → Derives text t ns → reads text ≡ done t ns
  read_derived t ns d =
      let s = (spaces_taken_out text d.bytes).0 d.spaced in
      tokens_read (fitting d.low d.high)
      ∙ (ap (run sale start) s.0 ∙ whole_pass sale d.admitted.whole d.admitted.few
      d.admitted.fits)

  read_fault : (f : Fault) → FaultOf text f → reads text ≡ bad f
  read_fault f (by_length h) = cond-false _ _ _ (unfitting h)
  read_fault f (by_token h k d) = tokens_read (fitting h k)
      ∙ answered 0 (tokens false 0 text) f (tokens_ascend false 0 text) d

  derived_by : (b : Bool) → sized text ≡ b → (t : Timers) (ns : List Node) → reads text ≡ done t ns →
      Derives text t ns
  derived_by true h t ns e =
      let r : Ended sale [] (tokens false 0 text) t ns =
      read_to_end_lem sale (tokens false 0 text) [] start (at_start sale) (tokens_shaped false 0 text) t ns
      (sym (tokens_read h) ∙ e) in
      record {
        low = (fits h).0;
        high = (fits h).1;
        bytes = tokens false 0 text;
        spaced = (spaces_taken_out text (tokens false 0 text)).1 (refl, r.solid);
        admitted = r.whole;
      }
  derived_by false h t ns e =
      let a : reads text ≡ bad (fault cause.Length 0 0) = cond-false _ _ _ h in
      let z : ◌≡◌ {A = ℕ} 0 1 = cc in absurd (omega arith)

  fault_by : (b : Bool) → sized text ≡ b → (f : Fault) → reads text ≡ bad f → FaultOf text f
  fault_by true h f e = by_token (fits h).0 (fits h).1
      (decided 0 (tokens false 0 text) f (tokens_ascend false 0 text) (sym (tokens_read h) ∙ e))
  fault_by false h f e =
      let a : reads text ≡ bad (fault cause.Length 0 0) = cond-false _ _ _ h in
      let d : fault cause.Length 0 0 ≡ f = cc in subst (FaultOf text) d (by_length (unfit h))

  -- what is read is what the text stands for, and a fault is the text's
  pub read_derives : (t : Timers) (ns : List Node) → reads text ≡ done t ns → Derives text t ns
  read_derives t ns e = derived_by (sized text) refl t ns e

  pub read_blames : (f : Fault) → reads text ≡ bad f → FaultOf text f
  read_blames f e = fault_by (sized text) refl f e

  one_map : (t u : Timers) (ns us : List Node) → Derives text t ns → Derives text u us → (t ≡ u) × (ns ≡ us)
  one_map t u ns us d e = let a = read_derived t ns d in let b = read_derived u us e in (cc, cc)

  one_fault : (f g : Fault) → FaultOf text f → FaultOf text g → f ≡ g
  one_fault f g d e = let a = read_fault f d in let b = read_fault g e in cc

  -- what is read is proper
  pub read_proper : (d : Draft) → DraftRead text (Ok d) → proper (drafted d) ≡ true
  read_proper d e = derived_proper (read_derives d.timers (drafted d) e).admitted.whole

  read_ok : (m : Map) → reads text ≡ done (timers_of m) (places m) → ReadExactly text (Ok m)
  read_ok m e =
      let d : Derives text (timers_of m) (places m) = read_derives (timers_of m) (places m) e in
      record {
        derived = λ w h. let k : m ≡ w = cc in subst (λ (v : Map). Derives text (timers_of v) (places v)) k d;
        admitted = λ t ns x. let a = read_derived t ns x in (m, refl, (cc), (cc));
        one_map = one_map;
        blamed = λ f h. let z : ◌≡◌ {A = ℕ} 0 1 = cc in absurd (omega arith);
        faulty = λ f x. let a = read_fault f x in let z : ◌≡◌ {A = ℕ} 0 1 = cc in absurd (omega arith);
        one_fault = one_fault;
        entries = λ w h. meant (places w) w.proper;
        gaps = gap_misplaced text;
        turning = turning text;
      }

  read_err : (e : Fault) → reads text ≡ bad e → ReadExactly text (Err e)
  read_err f e =
      record {
        derived = λ w h. let z : ◌≡◌ {A = ℕ} 0 1 = cc in absurd (omega arith);
        admitted = λ t ns x. let a = read_derived t ns x in let z : ◌≡◌ {A = ℕ} 0 1 = cc in
            absurd (omega arith);
        one_map = one_map;
        blamed = λ g h. let k : f ≡ g = cc in subst (FaultOf text) k (read_blames f e);
        faulty = λ g x. let a = read_fault g x in ap Err (cc);
        one_fault = one_fault;
        entries = λ w h. let z : ◌≡◌ {A = ℕ} 0 1 = cc in absurd (omega arith);
        gaps = gap_misplaced text;
        turning = turning text;
      }

  -- a map made of what the readers answer is exact, and so is their fault
  pub exact_map : (d : Draft) (m : Map) → DraftRead text (Ok d) → m.draft ≡ d → ReadExactly text (Ok m)
  exact_map d m e k = read_ok m (e ∙ ap (λ (x : Draft). done x.timers (drafted x)) (sym k))

  pub exact_fault : (f : Fault) → DraftRead text (Err f) → ReadExactly text (Err f)
  exact_fault f e = read_err f e
