-- The tokens before a place in a text are taken as far as that place. Assumes nothing.
use Rattle.std.proofs.Common.{◌≡◌, ℕ, ◌+◌, ◌<◌, ◌≤◌, Bool, true, false, List, [], ◌∷◌, ◌++◌, refl, ap, ◌∙◌, arith}
use Rattle.std.proofs.lemmas.Bool.{le-leb, lt-ltb, and_from}
use Rattle.keypad.specs.declared.key.Mark.{Mark}
use Rattle.keypad.specs.declared.timers.Timers.{Timers}
use Rattle.digit_map.specs.declared.sign.Sign.TheVariants as sign
use Rattle.digit_map.specs.declared.token.Token.{Token}
use Rattle.digit_map.specs.declared.token.Token.TheVariants.{Byte}
use Rattle.digit_map.specs.declared.node.Node.{Node}
use Rattle.digit_map.specs.declared.progress.Progress.{Progress}
use Rattle.digit_map.specs.declared.set.Place.{Place}
use Rattle.digit_map.specs.declared.set.Place.TheVariants as place
use Rattle.digit_map.specs.Signs.{sign_of}
use Rattle.digit_map.specs.Nodes.{ending, count_positions}
use Rattle.digit_map.specs.Limits.{Limits}
use Rattle.digit_map.specs.Acts.{fresh, has_room}
use Rattle.digit_map.specs.Turns.{State, on, state, start, frame, in_head, in_alternative, in_set}
use Rattle.digit_map.specs.Turns.{acted, run}
use Rattle.digit_map.specs.Grammar.{Elements, none, mark_more, place_more, dot_more, Final, is_mark}
use Rattle.digit_map.specs.Grammar.{elements, Front}
use Rattle.digit_map.specs.Standing.{behind_elements, last_of, Inside, Read, free, held, Started}
use Rattle.digit_map.specs.Standing.{Stands, in_the_head, in_a_field, in_an_alternative, in_a_set}
use Rattle.digit_map.specs.Standing.{behind_bracket, InLimits, Limited}
use Rattle.digit_map.proofs.Runs.{run_on, run_chain}
use Rattle.digit_map.proofs.NodeLaws.{filled_push, positions-++}
use Rattle.digit_map.proofs.ElementLaws.{placed_filled}
use Rattle.digit_map.proofs.HeadPass.{head_pass, begun_pass}
use Rattle.digit_map.proofs.SetPass.{inside_pass}
use Rattle.digit_map.proofs.ElementPass.{elements_pass, hold_pass, Takes, takes_free, takes_held}
use Rattle.digit_map.proofs.WholePass.{First, first_token, first_either, first_element, Reached, from_front}
use Rattle.digit_map.proofs.WholePass.{any_pass, front_pass, ended_pass, may_halt}

module _ (L : Limits) where
  room : (b : Bool) (n count : ℕ) → n ≤ L.alternatives → count < L.positions → has_room L (frame b n) count
      ≡ true
  room b n count h k = and_from _ _ (le-leb n L.alternatives h) (lt-ltb count L.positions k)

  reached : {s : List Token} {t : Timers} {b : Bool} {n : ℕ} {ns : List Node} (us : List Node) →
      Front s t b n ns → n ≤ L.alternatives + 1 →
      count_positions (ns ++ us) ≤ L.positions → Reached L s t b n ns
  reached {ns = ns} us x h k = front_pass L x h (let a = positions-++ ns us in omega arith)

  -- elements, begun or not
  free_pass : {s u : List Token} {t : Timers} (b : Bool) {n : ℕ} {ns us : List Node} {m : Mark} {e : Final} →
      Front s t b n ns → Elements u us m e → Started b u →
      InLimits L n (count_positions (ns ++ us)) (last_of e) →
      run L start (s ++ u) ≡ on (state t (ns ++ us)
      (in_alternative (frame b n) (behind_elements u us m e)))
  free_pass {s = s} {t = t} true {n = n} {ns = ns} x none w h =
      from_front L s t n ns true [] _ (reached [] x h.0 h.1) (λ e. absurd (true_false e)) refl
    where
      true_false : true ≡ false → ⊥
      true_false e = let z : ◌≡◌ {A = ℕ} 0 1 = cc in omega arith
  free_pass false x none w h = absurd w
  free_pass {s = s} {t = t} b {n = n} {ns = ns} {us = us} x (mark_more {s = v} y d c o k z) w h =
      any_pass L s t n ns b (reached us x (let a = h.0 in omega arith) h.1) (mark_more y d c o k z)
      (filled_push v (Byte d c o) []) h.0 h.1
  free_pass {s = s} {t = t} b {n = n} {ns = ns} {us = us} x (place_more {s = v} y z) w h =
      any_pass L s t n ns b (reached us x (let a = h.0 in omega arith) h.1) (place_more y z)
      (placed_filled v z) h.0 h.1
  free_pass {s = s} {t = t} b {n = n} {ns = ns} {us = us} x (dot_more {s = v} y c o) w h =
      any_pass L s t n ns b (reached us x (let a = h.0 in omega arith) h.1) (dot_more y c o)
      (filled_push v (Byte 46 c o) []) h.0 h.1

  -- elements and perhaps a Z, where a position may begin
  read_pass : {u : List Token} {us : List Node} {l : Bool} {p : Progress} (t : Timers) (b : Bool) (n : ℕ)
      (ns : List Node) → Read u us l p →
      n ≤ L.alternatives → count_positions (ns ++ us) < L.positions →
      run L (state t (ns ++ []) (in_alternative (frame b n) fresh)) u
      ≡ on (state t (ns ++ us) (in_alternative (frame b n) p))
  read_pass t b n ns (free x) h k = elements_pass L t (frame b n) ns x h (omega arith)
  read_pass t b n ns (held {u = u} {ns = us} {m = m} {e = e} x d c o z) h k =
      run_chain L u (Byte d c o ∷ []) (state t (ns ++ []) (in_alternative (frame b n) fresh))
      (state t (ns ++ us) (in_alternative (frame b n) (behind_elements u us m e))) _
      (elements_pass L t (frame b n) ns x h (omega arith))
      (hold_pass L t (frame b n) ns x d c o z (room b n _ h k))

  takes : {u : List Token} {us : List Node} {l : Bool} {p : Progress} (b : Bool) (n count : ℕ) →
      Read u us l p → n ≤ L.alternatives → count < L.positions →
      Takes L (frame b n) count p l
  takes b n count (free {u = u} {ns = us} {m = m} {e = e} x) h k = takes_free L (frame b n) count u us m e
      (room b n count h k)
  takes b n count (held {u = u} {ns = us} {m = m} {e = e} x d c o z) h k =
      takes_held L (frame b n) count u us m e o

  -- what begins an alternative, followed by a set
  first_read : {u : List Token} {us : List Node} {l : Bool} {p : Progress} → Read u us l p →
      (c : Bool) (o : ℕ) (v : List Token) → First L (u ++ Byte 91 c o ∷ v)
  first_read (free {u = u} x) c o v = first_either L u _ (first_element L x)
      (λ _. first_token L 91 c o v sign.SetOpen refl (λ t j. refl))
  first_read (held {u = u} x d a q z) c o v =
      first_either L (u ++ Byte d a q ∷ []) _
      (λ _. first_either L u _ (first_element L x) (λ _. first_token L d a q [] sign.Hold z (λ t j. refl)))
      (λ e. first_token L 91 c o v sign.SetOpen refl (λ t j. refl))

  set_read : {u v : List Token} {us : List Node} {l : Bool} {p : Progress} {q : Place} {k : ℕ} (t : Timers)
      (b : Bool) (n : ℕ) (ns : List Node) → Read u us l p →
      (c : Bool) (o : ℕ) → Inside v q k → n ≤ L.alternatives → count_positions (ns ++ us) < L.positions →
      run L (state t (ns ++ []) (in_alternative (frame b n) fresh)) (u ++ Byte 91 c o ∷ v)
      ≡ on (state t (ns ++ us) (in_set (frame b n) p l o q k))
  set_read {u = u} {v = v} {us = us} {l = l} {p = p} t b n ns x c o y h k =
      run_chain L u (Byte 91 c o ∷ v) (state t (ns ++ []) (in_alternative (frame b n) fresh))
      (state t (ns ++ us) (in_alternative (frame b n) p)) _
      (read_pass t b n ns x h k)
      (run_on L (state t (ns ++ us) (in_alternative (frame b n) p))
      (state t (ns ++ us) (in_set (frame b n) p l o place.Start 0)) (Byte 91 c o) v
      (ap (acted t (ns ++ us) (frame b n) p sign.SetOpen o)
      ((takes b n (count_positions (ns ++ us)) x h k).opens o))
      ∙ inside_pass L t (ns ++ us) (frame b n) p l o y)

  first_held : {u : List Token} {us : List Node} {m : Mark} {e : Final} → Elements u us m e →
      (d : ℕ) (c : Bool) (o : ℕ) → sign_of d c ≡ sign.Hold → First L (u ++ Byte d c o ∷ [])
  first_held {u = u} x d c o z = first_either L u _ (first_element L x)
      (λ _. first_token L d c o [] sign.Hold z (λ t j. refl))

  pub stands_pass : {p : List Token} {q : State} → Stands p q → Limited L q.nodes q.spot →
      run L start p ≡ on q
  stands_pass (in_the_head x) h = head_pass L x
  stands_pass (in_a_field {s = s} {u = u} {t = t} {k = k} x le y) h =
      run_chain L s u start (state t [] (in_head k)) _ (head_pass L x) (begun_pass L t k y le)
  stands_pass (in_an_alternative {b = b} x (free y) w) h = free_pass b x y w h
  stands_pass (in_an_alternative {s = s} {t = t} {b = b} {n = n} {ns = ns} {us = us} x
      (held {u = v} y d c o z) w) h =
      let k = h.1 in let j = h.0 in
      from_front L s t n ns b (v ++ Byte d c o ∷ []) _ (reached us x (omega arith) (omega arith))
      (λ _. first_held y d c o z) (read_pass t b n ns (held y d c o z) j k)
  stands_pass (in_a_set {s = s} {u = u} {v = v} {t = t} {b = b} {n = n} {ns = ns} {us = us} x y c o z) h =
      let k = h.1 in let j = h.0 in
      from_front L s t n ns b (u ++ Byte 91 c o ∷ v) _ (reached us x (omega arith) (omega arith))
      (λ _. first_read y c o v) (set_read t b n ns y c o z j k)
  stands_pass (behind_bracket {s = s} {u = u} {t = t} {n = n} {ns = ns} x
      (elements {ns = us} {m = m} {e = e} y z) c o) h =
      let j = h.0 in
      ended_pass L s t n ns true (reached (us ++ ending m (is_mark e) ∷ []) x (omega arith) h.1) y z j
      h.1 (Byte 41 c o) [] sign.Close o
      (ap (acted t (ns ++ us) (frame true n) (behind_elements u us m e) sign.Close o) (may_halt y z n o true))
