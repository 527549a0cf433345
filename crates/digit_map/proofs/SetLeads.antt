-- What a token inside a set leads to. Assumes nothing.
use Rattle.std.proofs.Common.{◌≡◌, ℕ, ◌-◌, ◌<◌, ◌≤◌, Bool, true, false, ◌&&◌, eqb, leb, List, [], ◌∷◌, ◌++◌, sym, refl, ap, ◌∙◌, subst, append_assoc, arith, Some, None, Option}
use lib.Bits.{bit_or}
use Rattle.std.proofs.lemmas.Bool.Decides.{nat_tests}
use Rattle.std.proofs.lemmas.Bool.{cond_both, eqb-true, and_parts}
use Rattle.keypad.specs.declared.timers.Timers.{Timers}
use Rattle.digit_map.specs.declared.token.Token.{Token}
use Rattle.digit_map.specs.declared.token.Token.TheVariants.{Byte}
use Rattle.digit_map.specs.declared.node.Node.{Node}
use Rattle.digit_map.specs.declared.progress.Last.TheVariants as last
use Rattle.digit_map.specs.declared.progress.Progress.{Progress}
use Rattle.digit_map.specs.declared.set.Place.{Place}
use Rattle.digit_map.specs.declared.set.Place.TheVariants.{Member, From}
use Rattle.digit_map.specs.declared.set.SetTurn.{SetTurn}
use Rattle.digit_map.specs.declared.set.SetTurn.TheVariants.{On, Done}
use Rattle.digit_map.specs.Bytes.{digit, key_letter_lem}
use Rattle.digit_map.specs.Nodes.{position, awaiting, count_positions}
use Rattle.digit_map.specs.Sets.{span, set_turn, at_member}
use Rattle.digit_map.specs.Limits.{Limits}
use Rattle.digit_map.specs.Acts.{onward}
use Rattle.digit_map.specs.Turns.{State, state, in_alternative, in_set, frame, in_set_turned}
use Rattle.digit_map.specs.Grammar as g
use Rattle.digit_map.specs.Grammar.{Members, none, more, one_digit, one_letter, Choice, set, Front}
use Rattle.digit_map.specs.Standing as st
use Rattle.digit_map.specs.Standing.{Inside, Read, Stands, in_a_set}
use Rattle.digit_map.proofs.NodeLaws.{positions-++}
use Rattle.digit_map.proofs.Leads.{Leads, behind_position, regroup}

-- a set's inside that may close: its members before the last, and the last
record Closes (v : List Token) (k : ℕ) : Type 0 where
  front : List Token
  last : List Token
  before : ℕ
  extra : ℕ
  members : Members front before
  final : g.Member last extra
  is : v ≡ front ++ last
  keys : k ≡ bit_or before extra

closed_by : {v w : List Token} {m n : ℕ} → Members v m → g.Member w n → Closes (v ++ w) (bit_or m n)
closed_by {v = v} {w = w} {m = m} {n = n} ms x =
    record { front = v; last = w; before = m; extra = n; members = ms; final = x; is = refl; keys = refl }

module _ (L : Limits) {s u : List Token} {t : Timers} {bracketed l : Bool} {n : ℕ} {ns us : List Node}
    {p : Progress}
    (front : Front s t bracketed n ns) (read : Read u us l p) (few : n ≤ L.alternatives)
    (room : count_positions (ns ++ us) < L.positions)
    (d : Bool) (at b : ℕ) (c : Bool) (o : ℕ) where
  abbrev Good : List Token → Option SetTurn → Type 0
  Good v x = Leads L (s ++ (u ++ Byte 91 d at ∷ v)) (Byte b c o)
      (in_set_turned t (ns ++ us) (frame bracketed n) p l at x)

  goes_on : (v : List Token) {q : Place} {k : ℕ} → Inside (v ++ Byte b c o ∷ []) q k → Good v (Some (On q k))
  goes_on v {q = q} {k = k} x =
      regroup L s (u ++ Byte 91 d at ∷ v) (Byte b c o)
      (subst (λ w. Stands (s ++ w) (state t (ns ++ us) (in_set (frame bracketed n) p l at q k)))
      (sym (append_assoc u (Byte 91 d at ∷ v) (Byte b c o ∷ []))) (in_a_set front read d at x))
      (few, room)

  one_more : (x : Node) → count_positions (x ∷ []) ≡ 1 → count_positions ((ns ++ us) ++ x ∷ []) ≤ L.positions
  one_more x e = let a = positions-++ (ns ++ us) (x ∷ []) in omega arith

  abbrev state_behind : ℕ → State
  state_behind k = state t ((ns ++ us) ++ awaiting (position k l false) p.mark p.marked ∷ [])
      (in_alternative (frame bracketed n) (onward p at p.mark false last.Position))

  closes : (v : List Token) {k : ℕ} → Closes v k → eqb b 93 ≡ true → Good v (Some (Done k))
  closes v {k = k} x e =
      let w : Byte 91 d at ∷ ((x.front ++ x.last) ++ Byte 93 c o ∷ [])
      ≡ (Byte 91 d at ∷ v) ++ Byte b c o ∷ [] =
      cc (x.is, eqb-true b 93 e) in
      let y = behind_position front read (set d at x.members x.final c o) in
      regroup L s (u ++ Byte 91 d at ∷ v) (Byte b c o)
      (subst (λ z. Stands (s ++ z) (state_behind k))
      (ap (λ z. u ++ z) w ∙ sym (append_assoc u (Byte 91 d at ∷ v) (Byte b c o ∷ [])))
      (subst (λ z. Stands (s ++ (u ++ Byte 91 d at ∷ ((x.front ++ x.last) ++ Byte 93 c o ∷ [])))
      (state_behind z)) (sym x.keys) y))
      (few, one_more (awaiting (position k l false) p.mark p.marked) refl)

  -- where a member may begin
  member_leads : {v : List Token} {m : ℕ} → Members v m → (close : Option SetTurn) →
      (eqb b 93 ≡ true → Good v close) → Good v (at_member m b close)
  member_leads {v = v} {m = m} ms close h =
      cond_both (digit b) _ _ (Good v) (λ e. goes_on v (st.digit_more ms b c o e))
      (λ _. cond_both (key_letter_lem b) _ _ (Good v) (λ e. goes_on v (st.letter ms b c o e))
      (λ _. cond_both (eqb b 93) _ _ (Good v) h (λ _. tt)))

  reaches : (a : ℕ) → digit a ≡ true → (digit b && leb (a - 48) (b - 48)) ≡ true → a ≤ b
  reaches a x e = grind (arith, nat_tests)

  pub set_leads : {v : List Token} {q : Place} {k : ℕ} → Inside v q k → Good v (set_turn q k b)
  set_leads st.start = member_leads none None (λ _. tt)
  set_leads (st.letter {s = v} ms a e w x) =
      member_leads (more ms (one_letter a e w x)) (Some (Done _))
      (closes (v ++ Byte a e w ∷ []) (closed_by ms (one_letter a e w x)))
  set_leads (st.range {s = v} ms a e w f y i j z x h le) =
      member_leads (more ms (g.range a e w f y i j z x h le)) (Some (Done _))
      (closes (v ++ Byte a e w ∷ Byte 45 f y ∷ Byte i j z ∷ [])
      (closed_by ms (g.range a e w f y i j z x h le)))
  set_leads (st.digit_more {s = v} {m = m} ms a e w x) =
      cond_both (eqb b 45) _ _ (Good (v ++ Byte a e w ∷ []))
      (λ h. goes_on (v ++ Byte a e w ∷ [])
      (subst (λ z. Inside z (From (a - 48)) m) (sym (append_assoc v (Byte a e w ∷ []) (Byte b c o ∷ [])))
      (subst (λ z. Inside (v ++ Byte a e w ∷ Byte z c o ∷ []) (From (a - 48)) m) (sym (eqb-true b 45 h))
      (st.hyphen ms a e w x c o))))
      (λ _. member_leads (more ms (one_digit a e w x)) (Some (Done _))
      (closes (v ++ Byte a e w ∷ []) (closed_by ms (one_digit a e w x))))
  set_leads (st.hyphen {s = v} {m = m} ms a e w x f y) =
      cond_both (digit b && leb (a - 48) (b - 48)) _ _ (Good (v ++ Byte a e w ∷ Byte 45 f y ∷ []))
      (λ h. goes_on (v ++ Byte a e w ∷ Byte 45 f y ∷ [])
      (subst (λ z. Inside z Member (bit_or m (span (a - 48) (b - 48))))
      (sym (append_assoc v (Byte a e w ∷ Byte 45 f y ∷ []) (Byte b c o ∷ [])))
      (st.range ms a e w f y b c o x (and_parts (digit b) (leb (a - 48) (b - 48)) h).0 (reaches a x h))))
      (λ _. tt)
