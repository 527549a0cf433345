-- Elements are taken as the grammar has them. Assumes nothing.
use Rattle.std.proofs.Common.{◌≡◌, ℕ, ◌≤◌, Bool, true, false, List, [], ◌∷◌, ◌++◌, sym, refl, ap, ◌∙◌, append_assoc, arith, Ok, Result}
use Rattle.std.proofs.lemmas.Bool.{cond-true, le-leb, lt-ltb, and_from}
use Rattle.keypad.specs.declared.key.Mark.{Mark}
use Rattle.keypad.specs.declared.timers.Timers.{Timers}
use Rattle.digit_map.specs.declared.fault.Fault.{Fault}
use Rattle.digit_map.specs.declared.sign.Sign.TheVariants as sign
use Rattle.digit_map.specs.declared.token.Token.{Token}
use Rattle.digit_map.specs.declared.token.Token.TheVariants.{Byte}
use Rattle.digit_map.specs.declared.node.Node.{Node}
use Rattle.digit_map.specs.declared.progress.Last.TheVariants as last
use Rattle.digit_map.specs.declared.progress.Progress.{Progress}
use Rattle.digit_map.specs.declared.progress.Frame.{Frame}
use Rattle.digit_map.specs.declared.progress.Act.{Act}
use Rattle.digit_map.specs.declared.progress.Act.TheVariants.{Go, Put, OpenSet}
use Rattle.digit_map.specs.declared.set.Place.TheVariants as place
use Rattle.digit_map.specs.Signs.{sign_of}
use Rattle.digit_map.specs.Nodes.{position, awaiting, dot_last_lem, needs_key, count_positions}
use Rattle.digit_map.specs.Limits.{Limits}
use Rattle.digit_map.specs.Acts.{progress, onward, if_held, unless_held, in_number_lem, has_room, acts, fresh}
use Rattle.digit_map.specs.Turns.{State, on, state, in_alternative, in_set, acted, turn_alternative, run}
use Rattle.digit_map.specs.Grammar as g
use Rattle.digit_map.specs.Grammar.{Choice, single, set, Placed, plain, long, Elements, none, mark_more}
use Rattle.digit_map.specs.Grammar.{place_more, dot_more, Final, nothing, mark, dot, is_mark}
use Rattle.digit_map.specs.Standing.{first_or, last_of, behind_elements, behind_hold}
use Rattle.digit_map.proofs.Runs.{run_on, run_chain}
use Rattle.digit_map.proofs.NodeLaws.{Filled, positions-++, dot_last-++, positions_dot_last}
use Rattle.digit_map.proofs.ElementLaws.{Facts, facts, needs_placed, first_push, onward_is}
use Rattle.digit_map.proofs.SetPass.{set_pass}

-- a position may begin, long or not
pub record Takes (L : Limits) (f : Frame) (n : ℕ) (p : Progress) (l : Bool) : Type 0 where
  pub keys : (k o : ℕ) → acts L f n p (sign.Keys k) o
      ≡ Ok (Put (position k l false) (onward p o p.mark false last.Position))
  pub opens : (o : ℕ) → acts L f n p sign.SetOpen o ≡ Ok (OpenSet l)

pub not_held : (e : Final) (a b : Result Act Fault) → if_held (last_of e) a b ≡ b
not_held nothing a b = refl
not_held mark a b = refl
not_held g.place a b = refl
not_held dot a b = refl

pub not_waiting : (n : ℕ) (e : Final) (a : Result Act Fault) → unless_held n (last_of e) a ≡ a
not_waiting n nothing a = refl
not_waiting n mark a = refl
not_waiting n g.place a = refl
not_waiting n dot a = refl

pub takes_free : (L : Limits) (f : Frame) (n : ℕ) (u : List Token) (ns : List Node) (m : Mark) (e : Final) →
    has_room L f n ≡ true →
    Takes L f n (behind_elements u ns m e) false
takes_free L f n u ns m e h =
    record {
      keys = λ k o. not_held e _ _ ∙ cond-true _ _ _ h;
      opens = λ o. not_held e _ _
          ∙ cond-true _ _ _ h;
    }

pub takes_held : (L : Limits) (f : Frame) (n : ℕ) (u : List Token) (ns : List Node) (m : Mark) (e : Final)
    (o : ℕ) →
    Takes L f n (behind_hold u ns m e o) true
takes_held L f n u ns m e z = record { keys = λ k o. refl; opens = λ o. refl }

module _ (L : Limits) (t : Timers) (f : Frame) where
  abbrev at : List Node → Progress → State
  at ns p = state t ns (in_alternative f p)

  choice_pass : (ns : List Node) (p : Progress) (l : Bool) → Takes L f (count_positions ns) p l →
      {w : List Token} {k : ℕ} → Choice w k →
      run L (at ns p) w ≡ on (at (ns ++ awaiting (position k l false) p.mark p.marked ∷ [])
      (onward p (first_or 0 w) p.mark false last.Position))
  choice_pass ns p l h (single b c o k e) =
      run_on L (at ns p) _ (Byte b c o) []
      (ap (λ s. turn_alternative L t ns f p s o) e ∙ ap (acted t ns f p (sign.Keys k) o) (h.keys k o))
  choice_pass ns p l h (set c o ms x d w) =
      run_chain L (Byte 91 c o ∷ []) _ (at ns p) (state t ns (in_set f p l o place.Start 0)) _
      (run_on L (at ns p) (state t ns (in_set f p l o place.Start 0)) (Byte 91 c o) []
      (ap (acted t ns f p sign.SetOpen o) (h.opens o)))
      (set_pass L t ns f p l o ms x d w)

  module _ (ns : List Node) where
    placed_plain : {u w : List Token} {us : List Node} {m : Mark} {e : Final} {k : ℕ} → Elements u us m e →
        Choice w k →
        has_room L f (count_positions (ns ++ us)) ≡ true →
        run L (at (ns ++ us) (behind_elements u us m e)) w
        ≡ on (at ((ns ++ us) ++ awaiting (position k false false) m (is_mark e) ∷ [])
        (progress m false (needs_key us) (first_or (first_or 0 w) u) last.Position))
    placed_plain {u = u} {w = w} {us = us} {m = m} {e = e} {k = k} x y h =
        choice_pass (ns ++ us) (behind_elements u us m e) false
        (takes_free L f (count_positions (ns ++ us)) u us m e h) y
        ∙ ap (λ p. on (at ((ns ++ us) ++ awaiting (position k false false) m (is_mark e) ∷ []) p))
        (onward_is x (first_or 0 w) m false last.Position)

    pub hold_turn : {u : List Token} {us : List Node} {m : Mark} {e : Final} → Elements u us m e → (o : ℕ) →
        has_room L f (count_positions (ns ++ us)) ≡ true →
        acts L f (count_positions (ns ++ us)) (behind_elements u us m e) sign.Hold o
        ≡ Ok (Go (behind_hold u us m e o))
    hold_turn {u = u} {us = us} {m = m} {e = e} x o h =
        not_waiting f.number e _
        ∙ (cond-true _ _ _ h ∙ ap (λ q. Ok (Go q)) (onward_is x o m (is_mark e) (last.Hold o)))

    pub hold_pass : {u : List Token} {us : List Node} {m : Mark} {e : Final} → Elements u us m e →
        (b : ℕ) (c : Bool) (o : ℕ) →
        sign_of b c ≡ sign.Hold → has_room L f (count_positions (ns ++ us)) ≡ true →
        run L (at (ns ++ us) (behind_elements u us m e)) (Byte b c o ∷ [])
        ≡ on (at (ns ++ us) (behind_hold u us m e o))
    hold_pass {u = u} {us = us} {m = m} {e = e} x b c o z h =
        run_on L (at (ns ++ us) (behind_elements u us m e)) _ (Byte b c o) []
        (ap (λ s. turn_alternative L t (ns ++ us) f (behind_elements u us m e) s o) z
        ∙ ap (acted t (ns ++ us) f (behind_elements u us m e) sign.Hold o) (hold_turn x o h))

    placed_held : {u w : List Token} {us : List Node} {m : Mark} {e : Final} {k : ℕ} → Elements u us m e →
        (o : ℕ) → Choice w k →
        run L (at (ns ++ us) (behind_hold u us m e o)) w
        ≡ on (at ((ns ++ us) ++ awaiting (position k true false) m (is_mark e) ∷ [])
        (progress m false (needs_key us) (first_or o u) last.Position))
    placed_held {u = u} {w = w} {us = us} {m = m} {e = e} {k = k} x o y =
        choice_pass (ns ++ us) (behind_hold u us m e o) true
        (takes_held L f (count_positions (ns ++ us)) u us m e o) y

    placed_any : {u w : List Token} {us : List Node} {m : Mark} {e : Final} {k : ℕ} {l : Bool} →
        Elements u us m e → Placed w k l →
        has_room L f (count_positions (ns ++ us)) ≡ true →
        run L (at (ns ++ us) (behind_elements u us m e)) w
        ≡ on (at ((ns ++ us) ++ awaiting (position k l false) m (is_mark e) ∷ [])
        (progress m false (needs_key us) (first_or (first_or 0 w) u) last.Position))
    placed_any x (plain y) h = placed_plain x y h
    placed_any {u = u} {us = us} {m = m} {e = e} x (long {u = w} b c o z y) h =
        run_chain L (Byte b c o ∷ []) w (at (ns ++ us) (behind_elements u us m e))
        (at (ns ++ us) (behind_hold u us m e o)) _
        (hold_pass x b c o z h) (placed_held x o y)

    first_placed : (u : List Token) {w : List Token} {k : ℕ} {l : Bool} → Placed w k l →
        first_or (first_or 0 w) u ≡ first_or 0 (u ++ w)
    first_placed u (plain (single b c o k e)) = sym (first_push u 0 (Byte b c o) [])
    first_placed u (plain (set c o ms x d p)) = sym (first_push u 0 (Byte 91 c o) _)
    first_placed u (long b c o e x) = sym (first_push u 0 (Byte b c o) _)

    placed_pass : {u w : List Token} {us : List Node} {m : Mark} {e : Final} {k : ℕ} {l : Bool} →
        Elements u us m e → Placed w k l →
        has_room L f (count_positions (ns ++ us)) ≡ true →
        run L (at (ns ++ us) (behind_elements u us m e)) w
        ≡ on (at (ns ++ (us ++ awaiting (position k l false) m (is_mark e) ∷ []))
        (behind_elements (u ++ w) (us ++ awaiting (position k l false) m (is_mark e) ∷ []) m g.place))
    placed_pass {u = u} {w = w} {us = us} {m = m} {e = e} {k = k} {l = l} x y h =
        placed_any x y h
        ∙ (ap (λ n. on (at n (progress m false (needs_key us) (first_or (first_or 0 w) u) last.Position)))
        (append_assoc ns us _)
        ∙ (ap (λ o. on (at (ns ++ (us ++ awaiting (position k l false) m (is_mark e) ∷ []))
        (progress m false (needs_key us) o last.Position))) (first_placed u y)
        ∙ ap (λ n. on (at (ns ++ (us ++ awaiting (position k l false) m (is_mark e) ∷ []))
        (progress m false n (first_or 0 (u ++ w)) last.Position)))
        (sym (needs_placed us k l m (is_mark e)))))

    pub mark_turn : {u : List Token} {us : List Node} {m : Mark} {e : Final} → Elements u us m e →
        (k : Mark) (o : ℕ) → in_number_lem L f ≡ true →
        acts L f (count_positions (ns ++ us)) (behind_elements u us m e) (sign.Timer k) o
        ≡ Ok (Go (progress k true (needs_key us) (first_or o u) last.Mark))
    mark_turn {e = e} x k o h =
        not_waiting f.number e _
        ∙ (cond-true _ _ _ h ∙ ap (λ q. Ok (Go q)) (onward_is x o k true last.Mark))

    mark_pass : {u : List Token} {us : List Node} {m : Mark} {e : Final} → Elements u us m e →
        (b : ℕ) (c : Bool) (o : ℕ) (k : Mark) →
        sign_of b c ≡ sign.Timer k → in_number_lem L f ≡ true →
        run L (at (ns ++ us) (behind_elements u us m e)) (Byte b c o ∷ [])
        ≡ on (at (ns ++ us) (behind_elements (u ++ Byte b c o ∷ []) us k mark))
    mark_pass {u = u} {us = us} {m = m} {e = e} x b c o k z h =
        run_on L (at (ns ++ us) (behind_elements u us m e)) _ (Byte b c o) []
        (ap (λ s. turn_alternative L t (ns ++ us) f (behind_elements u us m e) s o) z
        ∙ (ap (acted t (ns ++ us) f (behind_elements u us m e) (sign.Timer k) o) (mark_turn x k o h)
        ∙ ap (λ q. on (at (ns ++ us) (progress k true (needs_key us) q last.Mark)))
        (sym (first_push u 0 (Byte b c o) []))))

    dot_pass : {u : List Token} {us : List Node} {m : Mark} → Elements u us m g.place → (c : Bool) (o : ℕ) →
        run L (at (ns ++ us) (behind_elements u us m g.place)) (Byte 46 c o ∷ [])
        ≡ on (at (ns ++ dot_last_lem us) (behind_elements (u ++ Byte 46 c o ∷ []) (dot_last_lem us) m dot))
    dot_pass {u = u} {us = us} {m = m} x c o =
        let h : Facts g.place u us = facts x in
        ap (λ n. on (at n (progress m false (needs_key (dot_last_lem us)) (first_or 0 u) last.Dot)))
        (dot_last-++ ns us h.1)
        ∙ ap (λ q. on (at (ns ++ dot_last_lem us) (progress m false (needs_key (dot_last_lem us)) q last.Dot)))
        (first_dot u h.0)
      where
        first_dot : (v : List Token) → Filled v → first_or 0 v ≡ first_or 0 (v ++ Byte 46 c o ∷ [])
        first_dot [] z = absurd z
        first_dot (y ∷ v) z = refl

    -- one more position has room
    room_before : (us : List Node) (n : Node) → f.number ≤ L.alternatives →
        count_positions (ns ++ (us ++ n ∷ [])) ≤ L.positions →
        count_positions (n ∷ []) ≡ 1 → has_room L f (count_positions (ns ++ us)) ≡ true
    room_before us n h k e =
        let a : count_positions (ns ++ (us ++ n ∷ [])) ≡ count_positions ((ns ++ us) ++ n ∷ []) =
        ap count_positions (sym (append_assoc ns us (n ∷ []))) in
        let b = positions-++ (ns ++ us) (n ∷ []) in
        and_from _ _ (le-leb f.number L.alternatives h)
        (lt-ltb (count_positions (ns ++ us)) L.positions (omega arith))

    fewer : (us : List Node) (n : Node) → count_positions (ns ++ (us ++ n ∷ [])) ≤ L.positions →
        count_positions (ns ++ us) ≤ L.positions
    fewer us n k =
        let a : count_positions (ns ++ (us ++ n ∷ [])) ≡ count_positions ((ns ++ us) ++ n ∷ []) =
        ap count_positions (sym (append_assoc ns us (n ∷ []))) in
        let b = positions-++ (ns ++ us) (n ∷ []) in omega arith

    same_dotted : (us : List Node) → count_positions (ns ++ dot_last_lem us) ≤ L.positions →
        count_positions (ns ++ us) ≤ L.positions
    same_dotted us k =
        let a = positions-++ ns (dot_last_lem us) in let b = positions-++ ns us in
        let d = positions_dot_last us in omega arith

    pub elements_pass : {u : List Token} {us : List Node} {m : Mark} {e : Final} → Elements u us m e →
        f.number ≤ L.alternatives →
        count_positions (ns ++ us) ≤ L.positions → run L (at (ns ++ []) fresh) u
        ≡ on (at (ns ++ us) (behind_elements u us m e))
    elements_pass none h k = refl
    elements_pass (mark_more {s = s} {ns = us} {m = m} {e = e} x b c o z y) h k =
        run_chain L s (Byte b c o ∷ []) (at (ns ++ []) fresh) (at (ns ++ us) (behind_elements s us m e)) _
        (elements_pass x h k)
        (mark_pass x b c o z y (le-leb f.number L.alternatives h))
    elements_pass (place_more {s = s} {u = w} {ns = us} {m = m} {e = e} {k = j} {l = l} x y) h k =
        run_chain L s w (at (ns ++ []) fresh) (at (ns ++ us) (behind_elements s us m e)) _
        (elements_pass x h (fewer us (awaiting (position j l false) m (is_mark e)) k))
        (placed_pass x y (room_before us (awaiting (position j l false) m (is_mark e)) h k refl))
    elements_pass (dot_more {s = s} {ns = us} {m = m} x c o) h k =
        run_chain L s (Byte 46 c o ∷ []) (at (ns ++ []) fresh)
        (at (ns ++ us) (behind_elements s us m g.place)) _
        (elements_pass x h (same_dotted us k)) (dot_pass x c o)
