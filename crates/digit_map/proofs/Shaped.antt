-- A text's tokens end once, and what is read of them to their end is admitted. Assumes nothing.
use Rattle.std.proofs.Common.{◌≡◌, ℕ, ◌+◌, Bool, true, ◌||◌, List, [], ◌∷◌, ◌++◌, sym, refl, ap, ◌∙◌, subst, append_assoc, arith}
use Rattle.std.proofs.lemmas.Bool.{cond_both}
use Rattle.std.proofs.lemmas.List.{same_from_push}
use Rattle.keypad.specs.declared.timers.Timers.{Timers}
use Rattle.digit_map.specs.declared.fault.Fault.{Fault}
use Rattle.digit_map.specs.declared.token.Token.{Token}
use Rattle.digit_map.specs.declared.token.Token.TheVariants.{Byte, Gap, End}
use Rattle.digit_map.specs.declared.node.Node.{Node}
use Rattle.digit_map.specs.Bytes.{blank, joint}
use Rattle.digit_map.specs.Tokens.{joint_ahead, tokens}
use Rattle.digit_map.specs.Spacing.{gapless}
use Rattle.digit_map.specs.Limits.{Limits}
use Rattle.digit_map.specs.Turns.{Spot, in_head, in_field, in_alternative, in_set, closed, State, Turn, on}
use Rattle.digit_map.specs.Turns.{done, bad, turn, turn_at, run, went}
use Rattle.digit_map.specs.Grammar as g
use Rattle.digit_map.specs.Grammar.{Whole, several, Admitted}
use Rattle.digit_map.specs.Standing.{Standing}
use Rattle.digit_map.proofs.Leads.{Leads}
use Rattle.digit_map.proofs.Exact.{leads}

-- a gap or the text's end is the last token
abbrev pub Shaped : List Token → Type 0
Shaped [] = Unit {0}
Shaped (Byte b c o ∷ ts) = Shaped ts
Shaped (Gap o ∷ ts) = ts ≡ []
Shaped (End o ∷ ts) = ts ≡ []

pub tokens_shaped : (j : Bool) (o : ℕ) (text : List ℕ) → Shaped (tokens j o text)
tokens_shaped j o [] = refl
tokens_shaped j o (b ∷ bs) =
    cond_both (blank b) _ _ Shaped
    (λ _. cond_both (j || joint_ahead bs) _ _ Shaped (λ _. tokens_shaped true (o + 1) bs) (λ _. refl))
    (λ _. tokens_shaped (joint b) (o + 1) bs)

-- a whole text ends with its end
whole_end : {ts : List Token} {t : Timers} {ns : List Node} {n : ℕ} → Whole ts t ns n →
    (p : List Token) × (o : ℕ) × (ts ≡ p ++ End o ∷ [])
whole_end (g.single {s = s} {u = u} x y o) = (s ++ u, o, sym (append_assoc s u (End o ∷ [])))
whole_end (several {s = s} {u = u} x y c o p) = (
  s ++ (u ++ Byte 41 c o ∷ []),
  p,
  ap (λ v. s ++ v) (sym (append_assoc u (Byte 41 c o ∷ []) (End p ∷ [])))
      ∙ sym (append_assoc s (u ++ Byte 41 c o ∷ []) (End p ∷ [])),
)

module _ (L : Limits) where
  -- a byte does not end the reading
  byte_goes_on : (p : List Token) {t : Timers} {ns : List Node} (b : ℕ) (c : Bool) (o : ℕ) →
      Admitted L (p ++ Byte b c o ∷ []) t ns → ⊥
  byte_goes_on p b c o a =
      let w = whole_end a.whole in
      let e : Byte b c o ≡ End w.1 = (same_from_push p w.0 (Byte b c o) (End w.1) w.2).1 in
      let z : ◌≡◌ {A = ℕ} 0 1 = cc in omega arith

  gap_stops : (t : Timers) (ns : List Node) (s : Spot) (o : ℕ) →
      (f : Fault) × (turn_at L t ns s (Gap o) ≡ bad f)
  gap_stops t ns (in_head k) o = (_, refl)
  gap_stops t ns (in_field i at d) o = (_, refl)
  gap_stops t ns (in_alternative f p) o = (_, refl)
  gap_stops t ns (in_set f p l at q k) o = (_, refl)
  gap_stops t ns (closed n) o = (_, refl)

  -- tokens read to the end, behind p
  pub record Ended (p ts : List Token) (t : Timers) (ns : List Node) : Type 0 where
    pub whole : Admitted L (p ++ ts) t ns
    pub solid : gapless ts ≡ true

  ended_more : {p : List Token} {b : ℕ} {c : Bool} {o : ℕ} {ts : List Token} {t : Timers} {ns : List Node} →
      Ended (p ++ Byte b c o ∷ []) ts t ns → Ended p (Byte b c o ∷ ts) t ns
  ended_more {p = p} {b = b} {c = c} {o = o} {ts = ts} {t = t} {ns = ns} e =
      record {
        whole = subst (λ v. Admitted L v t ns) (append_assoc p (Byte b c o ∷ []) ts)
            e.whole;
        solid = e.solid;
      }

  byte_ended : (b : ℕ) (c : Bool) (o : ℕ) (ts p : List Token) (t : Timers) (ns : List Node) →
      ((w : State) → Standing L (p ++ Byte b c o ∷ []) w → run L w ts ≡ done t ns →
      Ended (p ++ Byte b c o ∷ []) ts t ns) →
      (x : Turn) → Leads L p (Byte b c o) x → went L x ts ≡ done t ns → Ended p (Byte b c o ∷ ts) t ns
  byte_ended b c o ts p t ns below (on w) l e = ended_more (below w l e)
  byte_ended b c o ts p t ns below (done u us) l e = absurd (byte_goes_on p b c o l)
  byte_ended b c o ts p t ns below (bad f) l e = let z : ◌≡◌ {A = ℕ} 0 1 = cc in absurd (omega arith)

  end_ended : (o : ℕ) (ts p : List Token) (t : Timers) (ns : List Node) → ts ≡ [] → (x : Turn) →
      Leads L p (End o) x → went L x [] ≡ done t ns → Ended p (End o ∷ ts) t ns
  end_ended o ts p t ns h (on w) l e = let z : ◌≡◌ {A = ℕ} 0 1 = cc in absurd (omega arith)
  end_ended o ts p t ns h (done u us) l e =
      let a : u ≡ t = cc in let b : us ≡ ns = cc in
      let k : Admitted L (p ++ End o ∷ []) t ns = subst (λ v. Admitted L (p ++ End o ∷ []) t v) b
      (subst (λ v. Admitted L (p ++ End o ∷ []) v us) a l) in
      record {
        whole = subst (λ v. Admitted L (p ++ End o ∷ v) t ns) (sym h) k;
        solid =
            ap (λ v. gapless (End o ∷ v)) h;
      }
  end_ended o ts p t ns h (bad f) l e = let z : ◌≡◌ {A = ℕ} 0 1 = cc in absurd (omega arith)

  pub read_to_end_lem : (ts p : List Token) (q : State) → Standing L p q → Shaped ts →
      (t : Timers) (ns : List Node) → run L q ts ≡ done t ns → Ended p ts t ns
  read_to_end_lem [] p q s h t ns e = let z : ◌≡◌ {A = ℕ} 0 1 = cc in absurd (omega arith)
  read_to_end_lem (Byte b c o ∷ ts) p q s h t ns e =
      byte_ended b c o ts p t ns (λ w l. read_to_end_lem ts (p ++ Byte b c o ∷ []) w l h t ns)
      (turn L q (Byte b c o)) (leads L s (Byte b c o)) e
  read_to_end_lem (Gap o ∷ ts) p q s h t ns e =
      let g = gap_stops q.timers q.nodes q.spot o in
      let a : went L (turn L q (Gap o)) ts ≡ bad g.0 = ap (λ x. went L x ts) g.1 in
      let z : ◌≡◌ {A = ℕ} 0 1 = cc in absurd (omega arith)
  read_to_end_lem (End o ∷ ts) p q s h t ns e =
      end_ended o ts p t ns h (turn L q (End o)) (leads L s (End o))
      (ap (λ v. went L (turn L q (End o)) v) (sym h) ∙ e)
