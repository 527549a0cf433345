-- What a token in an alternative leads to. Assumes nothing.
use Rattle.std.proofs.Common.{◌≡◌, ℕ, ◌+◌, ◌<◌, ◌≤◌, Bool, true, false, cond, not, ◌&&◌, ltb, leb, List, [], ◌∷◌, ◌++◌, sym, refl, ap, ◌∙◌, subst, append_assoc, arith, Ok, Err, Result}
use Rattle.std.proofs.lemmas.Bool.{cond_both, leb-true, ltb-true, and_parts, not-true, not-false, both_ways}
use Rattle.std.proofs.lemmas.List.{append-nil}
use Rattle.keypad.specs.declared.key.Mark.{Mark}
use Rattle.keypad.specs.declared.timers.Timers.{Timers}
use Rattle.digit_map.specs.declared.fault.Fault.{Fault}
use Rattle.digit_map.specs.declared.fault.Cause.TheVariants as cause
use Rattle.digit_map.specs.declared.sign.Sign.{Sign}
use Rattle.digit_map.specs.declared.sign.Sign.TheVariants as sign
use Rattle.digit_map.specs.declared.token.Token.{Token}
use Rattle.digit_map.specs.declared.token.Token.TheVariants.{Byte, End}
use Rattle.digit_map.specs.declared.node.Node.{Node}
use Rattle.digit_map.specs.declared.progress.Last.TheVariants as last
use Rattle.digit_map.specs.declared.progress.Progress.{Progress}
use Rattle.digit_map.specs.declared.progress.Act.{Act}
use Rattle.digit_map.specs.declared.progress.Act.TheVariants.{Go, Put, AddDot, OpenSet, Halt}
use Rattle.digit_map.specs.declared.set.Place.TheVariants as place
use Rattle.digit_map.specs.Signs.{sign_of}
use Rattle.digit_map.specs.Nodes.{position, awaiting, ending, dot_last_lem, needs_key, count_positions}
use Rattle.digit_map.specs.Limits.{Limits}
use Rattle.digit_map.specs.Acts.{wrong, progress, onward, fresh, in_number_lem, has_room, at_halt, acts}
use Rattle.digit_map.specs.Turns.{state, frame, in_alternative, in_set, closed}
use Rattle.digit_map.specs.Turns.{acted, turn_alternative}
use Rattle.digit_map.specs.Grammar as g
use Rattle.digit_map.specs.Grammar.{Choice, Elements, none, mark_more, dot_more, Final, nothing, mark, dot}
use Rattle.digit_map.specs.Grammar.{is_mark, Alternative, elements, Front, barred, Whole, several, Admitted}
use Rattle.digit_map.specs.Standing as st
use Rattle.digit_map.specs.Standing.{first_or, last_of, behind_elements, behind_hold, Read, free, held}
use Rattle.digit_map.specs.Standing.{Stands, in_an_alternative, in_a_set, behind_bracket, InLimits, Limited}
use Rattle.digit_map.specs.Standing.{Standing}
use Rattle.digit_map.proofs.NodeLaws.{Filled, filled_push, positions-++, positions_dot_last, dot_last-++}
use Rattle.digit_map.proofs.ElementLaws.{Facts, facts, first_push, onward_is}
use Rattle.digit_map.proofs.ElementPass.{not_held, not_waiting}
use Rattle.digit_map.proofs.SignLaws.{byte_of}
use Rattle.digit_map.proofs.Leads.{Leads, started, behind_position, regroup}

module _ (L : Limits) {s : List Token} {t : Timers} {b : Bool} {n : ℕ} {ns : List Node}
    (front : Front s t b n ns) where
  abbrev count : List Node → ℕ
  count us = count_positions (ns ++ us)

  -- what an act leads to
  abbrev After : List Token → List Node → Progress → Token → Sign → ℕ → Result Act Fault → Type 0
  After u us p x sg o a = Leads L (s ++ u) x (acted t (ns ++ us) (frame b n) p sg o a)

  roomy : (k : ℕ) → has_room L (frame b n) k ≡ true → (n ≤ L.alternatives) × (k < L.positions)
  roomy k h = let e = and_parts (leb n L.alternatives) (ltb k L.positions) h in
      (leb-true n L.alternatives e.0, ltb-true k L.positions e.1)

  one_more : (us : List Node) (x : Node) → count_positions (x ∷ []) ≡ 1 → count us < L.positions →
      count_positions ((ns ++ us) ++ x ∷ []) ≤ L.positions
  one_more us x e h = let a = positions-++ (ns ++ us) (x ∷ []) in omega arith

  put : {u : List Token} {us : List Node} {l : Bool} {p : Progress} → Read u us l p →
      (d : ℕ) (c : Bool) (o k : ℕ) → sign_of d c ≡ sign.Keys k →
      n ≤ L.alternatives → count us < L.positions →
      After u us p (Byte d c o) (sign.Keys k) o
      (Ok (Put (position k l false) (onward p o p.mark false last.Position)))
  put {u = u} {us = us} {l = l} {p = p} read d c o k e h j =
      regroup L s u (Byte d c o) (behind_position front read (g.single d c o k e))
      (h, one_more us (awaiting (position k l false) p.mark p.marked) refl j)

  keys_leads : {u : List Token} {us : List Node} {l : Bool} {p : Progress} → Read u us l p →
      InLimits L n (count us) p.last →
      (d : ℕ) (c : Bool) (o k : ℕ) → sign_of d c ≡ sign.Keys k →
      After u us p (Byte d c o) (sign.Keys k) o (acts L (frame b n) (count us) p (sign.Keys k) o)
  keys_leads (free {u = u} {ns = us} {m = m} {e = e} x) lim d c o k z =
      subst (After u us (behind_elements u us m e) (Byte d c o) (sign.Keys k) o) (sym (not_held e _ _))
      (cond_both (has_room L (frame b n) (count us)) _ _
      (After u us (behind_elements u us m e) (Byte d c o) (sign.Keys k) o)
      (λ h. let r = roomy (count us) h in put (free x) d c o k z r.0 r.1) (λ _. tt))
  keys_leads (held x d a q y) lim e c o k z = put (held x d a q y) e c o k z lim.0 lim.1

  opens : {u : List Token} {us : List Node} {l : Bool} {p : Progress} → Read u us l p →
      (d : ℕ) (c : Bool) (o : ℕ) → d ≡ 91 →
      n ≤ L.alternatives → count us < L.positions → After u us p (Byte d c o) sign.SetOpen o (Ok (OpenSet l))
  opens {u = u} {us = us} {l = l} {p = p} read d c o e h j =
      regroup L s u (Byte d c o)
      (subst (λ z. Stands (s ++ (u ++ Byte z c o ∷ []))
      (state t (ns ++ us) (in_set (frame b n) p l o place.Start 0))) (sym e)
      (in_a_set front read c o st.start)) (h, j)

  set_opens : {u : List Token} {us : List Node} {l : Bool} {p : Progress} → Read u us l p →
      InLimits L n (count us) p.last →
      (d : ℕ) (c : Bool) (o : ℕ) → sign_of d c ≡ sign.SetOpen →
      After u us p (Byte d c o) sign.SetOpen o (acts L (frame b n) (count us) p sign.SetOpen o)
  set_opens (free {u = u} {ns = us} {m = m} {e = e} x) lim d c o z =
      subst (After u us (behind_elements u us m e) (Byte d c o) sign.SetOpen o) (sym (not_held e _ _))
      (cond_both (has_room L (frame b n) (count us)) _ _
      (After u us (behind_elements u us m e) (Byte d c o) sign.SetOpen o)
      (λ h. let r = roomy (count us) h in opens (free x) d c o (byte_of d c sign.SetOpen z) r.0 r.1)
      (λ _. tt))
  set_opens (held x d a q y) lim e c o z = opens (held x d a q y) e c o (byte_of e c sign.SetOpen z) lim.0
      lim.1

  hold_leads : {u : List Token} {us : List Node} {l : Bool} {p : Progress} → Read u us l p →
      (d : ℕ) (c : Bool) (o : ℕ) → sign_of d c ≡ sign.Hold →
      After u us p (Byte d c o) sign.Hold o (acts L (frame b n) (count us) p sign.Hold o)
  hold_leads (free {u = u} {ns = us} {m = m} {e = e} x) d c o z =
      subst (After u us (behind_elements u us m e) (Byte d c o) sign.Hold o) (sym (not_waiting n e _))
      (cond_both (has_room L (frame b n) (count us)) _ _
      (After u us (behind_elements u us m e) (Byte d c o) sign.Hold o)
      (λ h. subst (λ q. After u us (behind_elements u us m e) (Byte d c o) sign.Hold o (Ok (Go q)))
      (sym (onward_is x o m (is_mark e) (last.Hold o)))
      (regroup L s u (Byte d c o) (in_an_alternative front (held x d c o z)
      (started b (u ++ Byte d c o ∷ []) (filled_push u (Byte d c o) []))) (roomy (count us) h)))
      (λ _. tt))
  hold_leads (held x d a q y) e c o z = tt

  in_limits : (u : List Token) (us : List Node) (e : Final) → InLimits L n (count us) (last_of e) →
      count us ≤ L.positions
  in_limits u us nothing h = h.1
  in_limits u us mark h = h.1
  in_limits u us g.place h = h.1
  in_limits u us dot h = h.1

  timer_leads : {u : List Token} {us : List Node} {l : Bool} {p : Progress} → Read u us l p →
      InLimits L n (count us) p.last →
      (d : ℕ) (c : Bool) (o : ℕ) (k : Mark) → sign_of d c ≡ sign.Timer k →
      After u us p (Byte d c o) (sign.Timer k) o (acts L (frame b n) (count us) p (sign.Timer k) o)
  timer_leads (free {u = u} {ns = us} {m = m} {e = e} x) lim d c o k z =
      subst (After u us (behind_elements u us m e) (Byte d c o) (sign.Timer k) o) (sym (not_waiting n e _))
      (cond_both (in_number_lem L (frame b n)) _ _
      (After u us (behind_elements u us m e) (Byte d c o) (sign.Timer k) o)
      (λ h. subst (λ q. After u us (behind_elements u us m e) (Byte d c o) (sign.Timer k) o (Ok (Go q)))
      (ap (λ q. progress k true (needs_key us) q last.Mark) (first_push u 0 (Byte d c o) [])
      ∙ sym (onward_is x o k true last.Mark))
      (regroup L s u (Byte d c o) (in_an_alternative front (free (mark_more x d c o k z))
      (started b (u ++ Byte d c o ∷ []) (filled_push u (Byte d c o) [])))
      (leb-true n L.alternatives h, in_limits u us e lim)))
      (λ _. tt))
  timer_leads (held x d a q y) lim e c o k z = tt

  dotted : {u : List Token} {us : List Node} {m : Mark} → Elements u us m g.place → n ≤ L.alternatives →
      count us ≤ L.positions → (d : ℕ) (c : Bool) (o : ℕ) → d ≡ 46 →
      After u us (behind_elements u us m g.place) (Byte d c o) sign.Dot o
      (Ok (AddDot (progress m false (needs_key (dot_last_lem us)) (first_or 0 u) last.Dot)))
  dotted {u = u} {us = us} {m = m} x h j d c o e =
      let f : Facts g.place u us = facts x in
      let q : first_or 0 (u ++ Byte d c o ∷ []) ≡ first_or 0 u = same_first u f.0 in
      let k : count_positions (dot_last_lem (ns ++ us)) ≤ L.positions = let a = positions_dot_last (ns ++ us) in
      omega arith in
      regroup L s u (Byte d c o)
      (subst (λ w. Stands (s ++ (u ++ Byte d c o ∷ []))
      (state t w (in_alternative (frame b n)
      (progress m false (needs_key (dot_last_lem us)) (first_or 0 u) last.Dot))))
      (sym (dot_last-++ ns us f.1))
      (subst (λ w. Stands (s ++ (u ++ Byte d c o ∷ []))
      (state t (ns ++ dot_last_lem us) (in_alternative (frame b n)
      (progress m false (needs_key (dot_last_lem us)) w last.Dot)))) q
      (subst (λ w. Stands (s ++ (u ++ Byte w c o ∷ []))
      (state t (ns ++ dot_last_lem us) (in_alternative (frame b n)
      (progress m false (needs_key (dot_last_lem us)) (first_or 0 (u ++ Byte w c o ∷ [])) last.Dot)))) (sym e)
      (in_an_alternative front (free (dot_more x c o))
      (started b (u ++ Byte 46 c o ∷ []) (filled_push u (Byte 46 c o) []))))))
      (h, k)
    where
      same_first : (v : List Token) → Filled v → first_or 0 (v ++ Byte d c o ∷ []) ≡ first_or 0 v
      same_first [] z = absurd z
      same_first (y ∷ v) z = refl

  dot_leads : {u : List Token} {us : List Node} {l : Bool} {p : Progress} → Read u us l p →
      InLimits L n (count us) p.last →
      (d : ℕ) (c : Bool) (o : ℕ) → sign_of d c ≡ sign.Dot →
      After u us p (Byte d c o) sign.Dot o (acts L (frame b n) (count us) p sign.Dot o)
  dot_leads (free {e = nothing} x) lim d c o z = tt
  dot_leads (free {e = mark} x) lim d c o z = tt
  dot_leads (free {e = g.place} x) lim d c o z = dotted x lim.0 lim.1 d c o (byte_of d c sign.Dot z)
  dot_leads (free {e = dot} x) lim d c o z = tt
  dot_leads (held x d a q y) lim e c o z = tt

  -- an act at the end of an alternative, if it may end `here`
  abbrev Halting : List Node → Bool → Result Act Fault → Type 0
  Halting us here (Ok (Go q)) = ⊥
  Halting us here (Ok (Put x q)) = ⊥
  Halting us here (Ok (AddDot q)) = ⊥
  Halting us here (Ok (OpenSet l)) = ⊥
  Halting us here (Ok Halt) = (needs_key us ≡ true) × (here ≡ true)
  Halting us here (Err e) = Unit {0}

  judges : (us : List Node) (here judged : Bool) (o first : ℕ) → (here ≡ true → judged ≡ true) →
      Halting us here (cond (judged && not (needs_key us)) (wrong n cause.Keyless first)
      (cond here (Ok Halt) (wrong n cause.Byte o)))
  judges us here judged o first f =
      cond_both (judged && not (needs_key us)) _ _ (Halting us here) (λ _. tt)
      (λ h. cond_both here _ _ (Halting us here) (λ e. (keyed (f e) h, e)) (λ _. tt))
    where
      keyed : judged ≡ true → (judged && not (needs_key us)) ≡ false → needs_key us ≡ true
      keyed e h = not-false (needs_key us) (subst (λ j. (j && not (needs_key us)) ≡ false) e h)

  halting : {u : List Token} {us : List Node} {l : Bool} {p : Progress} → Read u us l p →
      (o : ℕ) (here judged : Bool) → (here ≡ true → judged ≡ true) →
      Halting us here (at_halt n p o here judged p.last)
  halting (free {e = nothing} x) o here judged f = tt
  halting (free {u = u} {ns = us} {e = mark} x) o here judged f = judges us here judged o (first_or 0 u) f
  halting (free {u = u} {ns = us} {e = g.place} x) o here judged f = cond_both here _ _ (Halting us here)
      (λ e. ((facts x).2, e)) (λ _. tt)
  halting (free {u = u} {ns = us} {e = dot} x) o here judged f = judges us here judged o (first_or 0 u) f
  halting (held x d a q y) o here judged f = tt

  by_act : (u : List Token) (us : List Node) (p : Progress) (x : Token) (sg : Sign) (o : ℕ) (here : Bool)
      (a : Result Act Fault) → Halting us here a →
      (needs_key us ≡ true → here ≡ true → After u us p x sg o (Ok Halt)) → After u us p x sg o a
  by_act u us p x sg o here (Ok (Go q)) h f = absurd h
  by_act u us p x sg o here (Ok (Put y q)) h f = absurd h
  by_act u us p x sg o here (Ok (AddDot q)) h f = absurd h
  by_act u us p x sg o here (Ok (OpenSet l)) h f = absurd h
  by_act u us p x sg o here (Ok Halt) h f = f h.0 h.1
  by_act u us p x sg o here (Err e) h f = tt

  numbered : {u : List Token} {us : List Node} {m : Mark} (e : Final) → Elements u us m e →
      needs_key us ≡ true → InLimits L n (count us) (last_of e) → n ≤ L.alternatives
  numbered {us = us} nothing x h lim = absurd (both_ways (needs_key us) (ap needs_key (facts x).1) h)
  numbered mark x h lim = lim.0
  numbered g.place x h lim = lim.0
  numbered dot x h lim = lim.0

  module _ {u : List Token} {us : List Node} {m : Mark} {e : Final} (x : Elements u us m e)
      (needs : needs_key us ≡ true) (lim : InLimits L n (count us) (last_of e)) where
    abbrev behind : Progress
    behind = behind_elements u us m e

    abbrev all : List Node
    all = (ns ++ us) ++ ending m (is_mark e) ∷ []

    counted : count_positions all ≤ L.positions
    counted = let a = positions-++ (ns ++ us) (ending m (is_mark e) ∷ []) in let k = in_limits u us e lim in
        omega arith

    grouped : ns ++ (us ++ ending m (is_mark e) ∷ []) ≡ all
    grouped = sym (append_assoc ns us (ending m (is_mark e) ∷ []))

    bar_halts : (d : ℕ) (c : Bool) (o : ℕ) → d ≡ 124 → b ≡ true →
        After u us behind (Byte d c o) sign.Bar o (Ok Halt)
    bar_halts d c o z y =
        let f : Front s t true n ns = subst (λ v. Front s t v n ns) y front in
        let k = numbered e x needs lim in
        regroup L s u (Byte d c o)
        (subst (λ v. Stands (s ++ (u ++ Byte v c o ∷ []))
        (state t all (in_alternative (frame true (n + 1)) fresh))) (sym z)
        (subst (λ v. Stands v (state t all (in_alternative (frame true (n + 1)) fresh)))
        (append-nil (s ++ (u ++ Byte 124 c o ∷ [])))
        (subst (λ v. Stands ((s ++ (u ++ Byte 124 c o ∷ [])) ++ [])
        (state t v (in_alternative (frame true (n + 1)) fresh)))
        (append-nil (ns ++ (us ++ ending m (is_mark e) ∷ [])) ∙ grouped)
        (in_an_alternative (barred f (elements x needs) c o) (free none) tt))))
        (omega arith, counted)

    close_halts : (d : ℕ) (c : Bool) (o : ℕ) → d ≡ 41 → b ≡ true →
        After u us behind (Byte d c o) sign.Close o (Ok Halt)
    close_halts d c o z y =
        let f : Front s t true n ns = subst (λ v. Front s t v n ns) y front in
        regroup L s u (Byte d c o)
        (subst (λ v. Stands (s ++ (u ++ Byte v c o ∷ [])) (state t all (closed n))) (sym z)
        (subst (λ v. Stands (s ++ (u ++ Byte 41 c o ∷ [])) (state t v (closed n))) grouped
        (behind_bracket f (elements x needs) c o)))
        (numbered e x needs lim, counted)

    end_halts : (o : ℕ) → not b ≡ true → After u us behind (End o) sign.End o (Ok Halt)
    end_halts o y =
        let f : Front s t false n ns = subst (λ v. Front s t v n ns) (not-true b y) front in
        record {
          number = n;
          few = numbered e x needs lim;
          fits = counted;
          whole = subst (λ v. Whole v t all n) (sym (append_assoc s u (End o ∷ [])))
              (subst (λ v. Whole (s ++ (u ++ End o ∷ [])) t v n) grouped (g.single f (elements x needs) o));
        }

  bar_leads : {u : List Token} {us : List Node} {l : Bool} {p : Progress} → Read u us l p →
      InLimits L n (count us) p.last →
      (d : ℕ) (c : Bool) (o : ℕ) → sign_of d c ≡ sign.Bar →
      After u us p (Byte d c o) sign.Bar o (acts L (frame b n) (count us) p sign.Bar o)
  bar_leads (free {u = u} {ns = us} {m = m} {e = e} x) lim d c o z =
      by_act u us (behind_elements u us m e) (Byte d c o) sign.Bar o b _
      (halting (free x) o b true (λ _. refl)) (λ h y. bar_halts x h lim d c o (byte_of d c sign.Bar z) y)
  bar_leads (held x d a q y) lim e c o z = tt

  close_leads : {u : List Token} {us : List Node} {l : Bool} {p : Progress} → Read u us l p →
      InLimits L n (count us) p.last →
      (d : ℕ) (c : Bool) (o : ℕ) → sign_of d c ≡ sign.Close →
      After u us p (Byte d c o) sign.Close o (acts L (frame b n) (count us) p sign.Close o)
  close_leads (free {u = u} {ns = us} {m = m} {e = e} x) lim d c o z =
      by_act u us (behind_elements u us m e) (Byte d c o) sign.Close o b _
      (halting (free x) o b true (λ _. refl))
      (λ h y. close_halts x h lim d c o (byte_of d c sign.Close z) y)
  close_leads (held x d a q y) lim e c o z = tt

  -- the text's end in an alternative
  pub end_leads : {u : List Token} {us : List Node} {l : Bool} {p : Progress} → Read u us l p →
      InLimits L n (count us) p.last → (o : ℕ) →
      After u us p (End o) sign.End o (acts L (frame b n) (count us) p sign.End o)
  end_leads (free {u = u} {ns = us} {m = m} {e = e} x) lim o =
      by_act u us (behind_elements u us m e) (End o) sign.End o (not b) _
      (halting (free x) o (not b) (not b) (λ y. y)) (λ h y. end_halts x h lim o y)
  end_leads (held x d a q y) lim o = tt

  other_leads : {u : List Token} {us : List Node} {l : Bool} {p : Progress} → Read u us l p →
      (x : Token) (o : ℕ) →
      After u us p x sign.Other o (acts L (frame b n) (count us) p sign.Other o)
  other_leads (free {u = u} {ns = us} {m = m} {e = e} y) x o =
      subst (After u us (behind_elements u us m e) x sign.Other o) (sym (not_waiting n e _)) tt
  other_leads (held y d a q z) x o = tt

  open_leads : {u : List Token} {us : List Node} {l : Bool} {p : Progress} → Read u us l p →
      (x : Token) (o : ℕ) →
      After u us p x sign.Open o (acts L (frame b n) (count us) p sign.Open o)
  open_leads (free {u = u} {ns = us} {m = m} {e = e} y) x o =
      subst (After u us (behind_elements u us m e) x sign.Open o) (sym (not_waiting n e _)) tt
  open_leads (held y d a q z) x o = tt

  -- a byte in an alternative
  pub byte_leads : {u : List Token} {us : List Node} {l : Bool} {p : Progress} → Read u us l p →
      InLimits L n (count us) p.last →
      (d : ℕ) (c : Bool) (o : ℕ) (sg : Sign) → sign_of d c ≡ sg →
      Leads L (s ++ u) (Byte d c o) (turn_alternative L t (ns ++ us) (frame b n) p sg o)
  byte_leads r lim d c o (sign.Keys k) e = keys_leads r lim d c o k e
  byte_leads r lim d c o (sign.Timer m) e = timer_leads r lim d c o m e
  byte_leads r lim d c o (sign.Field i) e = tt
  byte_leads r lim d c o sign.Hold e = hold_leads r d c o e
  byte_leads r lim d c o sign.SetOpen e = set_opens r lim d c o e
  byte_leads r lim d c o sign.Open e = open_leads r (Byte d c o) o
  byte_leads r lim d c o sign.Close e = close_leads r lim d c o e
  byte_leads r lim d c o sign.Bar e = bar_leads r lim d c o e
  byte_leads r lim d c o sign.Dot e = dot_leads r lim d c o e
  byte_leads r lim d c o sign.End e = absurd (byte_of d c sign.End e)
  byte_leads r lim d c o sign.Other e = other_leads r (Byte d c o) o
