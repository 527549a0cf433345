-- A token that the reader stops at shows the fault that it answers. Assumes nothing.
use Rattle.std.proofs.Common.{◌≡◌, ℕ, Bool, true, false, cond, not, ◌&&◌, ltb, leb, ◌⊎◌, List, [], ◌∷◌, ◌++◌, sym, refl, ap, ◌∙◌, subst, inl, inr, ⊎_elim, arith, Some, None, Option, Ok, Result}
use Rattle.std.proofs.lemmas.Bool.{cond_both, leb-false, ltb-false, and_cases, and_parts, not-true}
use Rattle.keypad.specs.declared.timers.Timers.{Timers}
use Rattle.digit_map.specs.declared.fault.Cause.TheVariants as cause
use Rattle.digit_map.specs.declared.fault.Fault.{Fault}
use Rattle.digit_map.specs.declared.sign.Field.{Field}
use Rattle.digit_map.specs.declared.sign.Sign.{Sign}
use Rattle.digit_map.specs.declared.sign.Sign.TheVariants as sign
use Rattle.digit_map.specs.declared.token.Token.{Token}
use Rattle.digit_map.specs.declared.token.Token.TheVariants.{Byte, Gap, End}
use Rattle.digit_map.specs.declared.node.Node.{Node}
use Rattle.digit_map.specs.declared.head.Digits.{Digits}
use Rattle.digit_map.specs.declared.head.FieldTurn.{FieldTurn}
use Rattle.digit_map.specs.declared.head.FieldTurn.TheVariants as field
use Rattle.digit_map.specs.declared.set.Place.{Place}
use Rattle.digit_map.specs.declared.set.SetTurn.{SetTurn}
use Rattle.digit_map.specs.declared.set.SetTurn.TheVariants as set
use Rattle.digit_map.specs.declared.progress.Last.{Last}
use Rattle.digit_map.specs.declared.progress.Last.TheVariants as last
use Rattle.digit_map.specs.declared.progress.Progress.{Progress}
use Rattle.digit_map.specs.declared.progress.Frame.{Frame}
use Rattle.digit_map.specs.declared.progress.Act.{Act}
use Rattle.digit_map.specs.declared.progress.Act.TheVariants.{Halt}
use Rattle.digit_map.specs.Faults.{fault}
use Rattle.digit_map.specs.Signs.{sign_of}
use Rattle.digit_map.specs.Offsets.{at_of}
use Rattle.digit_map.specs.Nodes.{count_positions}
use Rattle.digit_map.specs.Sets.{set_turn}
use Rattle.digit_map.specs.Fields.{rank, field_turn}
use Rattle.digit_map.specs.Limits.{sale}
use Rattle.digit_map.specs.Acts.{wrong, has_room, in_number_lem, if_held, unless_held, at_halt, at_dot}
use Rattle.digit_map.specs.Turns.{State, Turn, on, done, bad, state, start, in_head, in_field, in_alternative}
use Rattle.digit_map.specs.Turns.{in_set, closed, turn, turn_head, turn_alternative, turn_closed, acted}
use Rattle.digit_map.specs.Turns.{fielded, in_set_turned, run, went}
use Rattle.digit_map.specs.Standing.{Stands, in_the_head, in_a_field, in_an_alternative, in_a_set}
use Rattle.digit_map.specs.Standing.{behind_bracket, Standing}
use Rattle.digit_map.specs.Situations.{token_sign_lem, Solid, number_at, LastFree, LastPosition, LastHold}
use Rattle.digit_map.specs.Situations.{LastNeedless, Ends, TakesZ, BeginsPosition, BeginsElement}
use Rattle.digit_map.specs.Shows.{Barred, Faulty, field_misplaced, field_broken, set_broken}
use Rattle.digit_map.specs.Shows.{dot_misplaced, hold_misplaced, keyless, position_excess}
use Rattle.digit_map.specs.Shows.{alternative_excess}
use Rattle.digit_map.proofs.Runs.{run_join}
use Rattle.digit_map.proofs.WholePass.{whole_pass}
use Rattle.digit_map.proofs.StandPass.{stands_pass}

-- where the reader stops at a token, that token is not allowed
pub barred : {p : List Token} {q : State} {x : Token} {f : Fault} → Standing sale p q →
    turn sale q x ≡ bad f → Barred p x
barred {p = p} {q = q} {x = x} {f = f} s e =
    record {
      no_place = λ w h. let a : run sale start (p ++ x ∷ []) ≡ on w =
          stands_pass sale h.text h.limits in
          let z : ◌≡◌ {A = ℕ} 0 1 = cc (stops, a) in omega arith;
      no_map = λ t ns h. let a : run sale start (p ++ x ∷ []) ≡ done t ns =
          whole_pass sale h.whole h.few h.fits in
          let z : ◌≡◌ {A = ℕ} 0 1 = cc (stops, a) in omega arith;
    }
  where
    stops : run sale start (p ++ x ∷ []) ≡ bad f
    stops = run_join sale p (x ∷ []) start q (stands_pass sale s.text s.limits)
        ∙ ap (λ t. went sale t []) e

module _ (p : List Token) (x : Token) where
  -- a fault with a cause of its own, or a token that is not allowed
  abbrev pub Ruled : State → Turn → Type 0
  Ruled q (on w) = Unit {0}
  Ruled q (done t ns) = Unit {0}
  Ruled q (bad f) = Faulty p q x f ⊎ (f ≡ fault cause.Byte (at_of x) (number_at q.spot))

  module _ (t : Timers) (ns : List Node) (f : Frame) (r : Progress) where
    abbrev here : State
    here = state t ns (in_alternative f r)

    abbrev Acted : Sign → Result Act Fault → Type 0
    Acted s a = Ruled here (acted t ns f r s (at_of x) a)

    excess : (s : Sign) → token_sign_lem x ≡ s → BeginsPosition s → BeginsElement s → LastFree r.last →
        has_room sale f (count_positions ns) ≡ false →
        Faulty p here x (fault cause.Excess (at_of x) f.number)
    excess s e b c l h =
        ⊎_elim
        (λ y. alternative_excess l (leb-false f.number 64 y) (subst BeginsElement (sym e) c))
        (λ y. position_excess l (ltb-false (count_positions ns) 255 y) (subst BeginsPosition (sym e) b))
        (and_cases (leb f.number 64) (ltb (count_positions ns) 255) h)

    -- where a position may begin
    room_ruled : (s : Sign) → token_sign_lem x ≡ s → BeginsPosition s → BeginsElement s → LastFree r.last →
        (a : Result Act Fault) → Acted s a →
        Acted s (cond (has_room sale f (count_positions ns)) a (wrong f.number cause.Excess (at_of x)))
    room_ruled s e b c l a y = cond_both (has_room sale f (count_positions ns)) _ _ (Acted s) (λ _. y)
        (λ h. inl (excess s e b c l h))

    number_ruled : (s : Sign) → token_sign_lem x ≡ s → BeginsElement s → LastFree r.last →
        (a : Result Act Fault) → Acted s a →
        Acted s (cond (in_number_lem sale f) a (wrong f.number cause.Excess (at_of x)))
    number_ruled s e c l a y =
        cond_both (in_number_lem sale f) _ _ (Acted s) (λ _. y)
        (λ h. inl (alternative_excess l (leb-false f.number 64 h) (subst BeginsElement (sym e) c)))

    -- by whether a Z waits
    if_held_ruled : (s : Sign) (l : Last) → r.last ≡ l → (a b : Result Act Fault) → Acted s a →
        (LastFree r.last → Acted s b) → Acted s (if_held l a b)
    if_held_ruled s last.Nothing e a b y z = z (subst LastFree (sym e) tt)
    if_held_ruled s last.Mark e a b y z = z (subst LastFree (sym e) tt)
    if_held_ruled s last.Position e a b y z = z (subst LastFree (sym e) tt)
    if_held_ruled s last.Dot e a b y z = z (subst LastFree (sym e) tt)
    if_held_ruled s (last.Hold o) e a b y z = y

    held_ruled : (s : Sign) → token_sign_lem x ≡ s → Solid x → (TakesZ s → ⊥) → (z : ℕ) → r.last ≡ last.Hold z →
        Acted s (wrong f.number cause.Affix z)
    held_ruled s e d n z h = inl (hold_misplaced z (subst (LastHold z) (sym h) refl) d
        (λ y. n (subst TakesZ e y)))

    unless_held_ruled : (s : Sign) → token_sign_lem x ≡ s → Solid x → (TakesZ s → ⊥) → (l : Last) → r.last ≡ l →
        (a : Result Act Fault) → (LastFree r.last → Acted s a) →
        Acted s (unless_held f.number l a)
    unless_held_ruled s e d n last.Nothing h a y = y (subst LastFree (sym h) tt)
    unless_held_ruled s e d n last.Mark h a y = y (subst LastFree (sym h) tt)
    unless_held_ruled s e d n last.Position h a y = y (subst LastFree (sym h) tt)
    unless_held_ruled s e d n last.Dot h a y = y (subst LastFree (sym h) tt)
    unless_held_ruled s e d n (last.Hold z) h a y = held_ruled s e d n z h

    dot_ruled : token_sign_lem x ≡ sign.Dot → Solid x → (l : Last) → r.last ≡ l →
        Acted sign.Dot (at_dot f.number r (at_of x) l)
    dot_ruled e d last.Nothing h = inl (dot_misplaced e tt (λ y. subst LastPosition h y))
    dot_ruled e d last.Mark h = inl (dot_misplaced e tt (λ y. subst LastPosition h y))
    dot_ruled e d last.Position h = tt
    dot_ruled e d last.Dot h = inl (dot_misplaced e tt (λ y. subst LastPosition h y))
    dot_ruled e d (last.Hold z) h = held_ruled sign.Dot e d (λ y. y) z h

    -- where an alternative may end
    module _ (s : Sign) (e : token_sign_lem x ≡ s) (d : Solid x) (n : TakesZ s → ⊥) (ends : Acted s (Ok Halt))
        (inside judged : Bool) (judges : judged ≡ true → Ends f.bracketed s) where
      needless_ruled : LastNeedless r.needs r.last ⊎ (r.needs ≡ true) →
          Acted s (cond (judged && not r.needs) (wrong f.number cause.Keyless r.first)
          (cond inside (Ok Halt) (wrong f.number cause.Byte (at_of x))))
      needless_ruled l =
          cond_both (judged && not r.needs) _ _ (Acted s)
          (λ h. let y = and_parts judged (not r.needs) h in
          inl (keyless r.first (
            lacks (not-true r.needs y.1) l,
            refl,
            subst (Ends f.bracketed) (sym e) (judges y.0),
          )))
          (λ _. cond_both inside _ _ (Acted s) (λ _. ends) (λ _. inr refl))
        where
          lacks : r.needs ≡ false → LastNeedless r.needs r.last ⊎ (r.needs ≡ true) →
              LastNeedless r.needs r.last
          lacks h (inl y) = y
          lacks h (inr y) = let z : ◌≡◌ {A = ℕ} 0 1 = cc in absurd (omega arith)

      lacking : (b : Bool) → r.needs ≡ b → ((r.needs ≡ false) → LastNeedless r.needs r.last) →
          LastNeedless r.needs r.last ⊎ (r.needs ≡ true)
      lacking true h y = inr h
      lacking false h y = inl (y h)

      halt_ruled : (l : Last) → r.last ≡ l → Acted s (at_halt f.number r (at_of x) inside judged l)
      halt_ruled last.Nothing h = inr refl
      halt_ruled last.Mark h = needless_ruled
          (lacking r.needs refl (λ y. subst (LastNeedless r.needs) (sym h) y))
      halt_ruled last.Position h = cond_both inside _ _ (Acted s) (λ _. ends) (λ _. inr refl)
      halt_ruled last.Dot h = needless_ruled
          (lacking r.needs refl (λ y. subst (LastNeedless r.needs) (sym h) y))
      halt_ruled (last.Hold z) h = held_ruled s e d n z h

    alternative_ruled : (s : Sign) → token_sign_lem x ≡ s → Solid x →
        Ruled here (turn_alternative sale t ns f r s (at_of x))
    alternative_ruled (sign.Keys k) e d =
        if_held_ruled (sign.Keys k) r.last refl _ _ tt (λ l. room_ruled (sign.Keys k) e tt tt l _ tt)
    alternative_ruled (sign.Timer m) e d =
        unless_held_ruled (sign.Timer m) e d (λ y. y) r.last refl _
        (λ l. number_ruled (sign.Timer m) e tt l _ tt)
    alternative_ruled (sign.Field i) e d = inl (field_misplaced i e tt (λ y. y))
    alternative_ruled sign.Hold e d = unless_held_ruled sign.Hold e d (λ y. y) r.last refl _
        (λ l. room_ruled sign.Hold e tt tt l _ tt)
    alternative_ruled sign.SetOpen e d = if_held_ruled sign.SetOpen r.last refl _ _ tt
        (λ l. room_ruled sign.SetOpen e tt tt l _ tt)
    alternative_ruled sign.Open e d = unless_held_ruled sign.Open e d (λ y. y) r.last refl _
        (λ _. inr refl)
    alternative_ruled sign.Close e d = halt_ruled sign.Close e d (λ y. y) tt f.bracketed true (λ _. tt)
        r.last refl
    alternative_ruled sign.Bar e d = halt_ruled sign.Bar e d (λ y. y) tt f.bracketed true (λ _. tt)
        r.last refl
    alternative_ruled sign.Dot e d = dot_ruled e d r.last refl
    alternative_ruled sign.End e d = halt_ruled sign.End e d (λ y. y) tt (not f.bracketed)
        (not f.bracketed) (not-true f.bracketed) r.last refl
    alternative_ruled sign.Other e d = unless_held_ruled sign.Other e d (λ y. y) r.last refl _
        (λ _. inr refl)

  head_ruled : (t : Timers) (k : ℕ) (s : Sign) → token_sign_lem x ≡ s →
      Ruled (state t [] (in_head k)) (turn_head sale t k s (at_of x))
  head_ruled t k (sign.Keys m) e = tt
  head_ruled t k (sign.Timer m) e = tt
  head_ruled t k (sign.Field i) e =
      cond_both (leb k (rank i)) _ _ (Ruled (state t [] (in_head k))) (λ _. tt)
      (λ h. inl (field_misplaced i e tt (λ y. let a = leb-false k (rank i) h in omega arith)))
  head_ruled t k sign.Hold e = tt
  head_ruled t k sign.SetOpen e = tt
  head_ruled t k sign.Open e = tt
  head_ruled t k sign.Close e = inr refl
  head_ruled t k sign.Bar e = inr refl
  head_ruled t k sign.Dot e = inl (dot_misplaced e tt (λ y. y))
  head_ruled t k sign.End e = inr refl
  head_ruled t k sign.Other e = inr refl

  closed_ruled : (t : Timers) (ns : List Node) (n : ℕ) (s : Sign) → token_sign_lem x ≡ s →
      Ruled (state t ns (closed n)) (turn_closed t ns n s (at_of x))
  closed_ruled t ns n (sign.Keys k) e = inr refl
  closed_ruled t ns n (sign.Timer m) e = inr refl
  closed_ruled t ns n (sign.Field i) e = inl (field_misplaced i e tt (λ y. y))
  closed_ruled t ns n sign.Hold e = inr refl
  closed_ruled t ns n sign.SetOpen e = inr refl
  closed_ruled t ns n sign.Open e = inr refl
  closed_ruled t ns n sign.Close e = inr refl
  closed_ruled t ns n sign.Bar e = inr refl
  closed_ruled t ns n sign.Dot e = inl (dot_misplaced e tt (λ y. y))
  closed_ruled t ns n sign.End e = tt
  closed_ruled t ns n sign.Other e = inr refl

  field_ruled : (t : Timers) (i : Field) (at : ℕ) (d : Digits) → Solid x → (y : Option FieldTurn) →
      (fielded t i at y ≡ bad (fault cause.Head at 0) → Barred p x) →
      Ruled (state t [] (in_field i at d)) (fielded t i at y)
  field_ruled t i at d h (Some (field.On e)) b = tt
  field_ruled t i at d h (Some (field.Done v)) b = tt
  field_ruled t i at d h None b = inl (field_broken at refl h (b refl))

  set_ruled : (t : Timers) (ns : List Node) (f : Frame) (r : Progress) (l : Bool) (at : ℕ) (q : Place)
      (k : ℕ) → Solid x → (y : Option SetTurn) →
      (in_set_turned t ns f r l at y ≡ bad (fault cause.Set at f.number) → Barred p x) →
      Ruled (state t ns (in_set f r l at q k)) (in_set_turned t ns f r l at y)
  set_ruled t ns f r l at q k h (Some (set.On w j)) b = tt
  set_ruled t ns f r l at q k h (Some (set.Done j)) b = tt
  set_ruled t ns f r l at q k h None b = inl (set_broken at refl h (b refl))

ruled_by : {p : List Token} {q : State} → Stands p q → (x : Token) →
    ((f : Fault) → turn sale q x ≡ bad f → Barred p x) → Ruled p x q (turn sale q x)
ruled_by {p = p} (in_the_head {t = t} {k = k} h) (Byte b c o) bar =
    head_ruled p (Byte b c o) t k (sign_of b c) refl
ruled_by (in_the_head h) (Gap o) bar = inr refl
ruled_by (in_the_head h) (End o) bar = inr refl
ruled_by {p = p} (in_a_field {t = t} {i = i} {d = d} h le u) (Byte b c o) bar =
    field_ruled p (Byte b c o) t i _ d tt (field_turn i d b) (bar _)
ruled_by (in_a_field h le u) (Gap o) bar = inr refl
ruled_by (in_a_field h le u) (End o) bar = inl (field_broken _ refl tt (bar _ refl))
ruled_by {p = p} (in_an_alternative {t = t} {ns = ns} {us = us} {p = r} h y w) (Byte b c o) bar =
    alternative_ruled p (Byte b c o) t (ns ++ us) _ r (sign_of b c) refl tt
ruled_by (in_an_alternative h y w) (Gap o) bar = inr refl
ruled_by {p = p} (in_an_alternative {t = t} {ns = ns} {us = us} {p = r} h y w) (End o) bar =
    alternative_ruled p (End o) t (ns ++ us) _ r sign.End refl tt
ruled_by {p = p} (in_a_set {t = t} {k = k} {ns = ns} {us = us} {l = l} {p = r} {q = q} h y e at z)
    (Byte b c o) bar =
    set_ruled p (Byte b c o) t (ns ++ us) _ r l at q k tt (set_turn q k b) (bar _)
ruled_by (in_a_set h y e at z) (Gap o) bar = inr refl
ruled_by (in_a_set h y e at z) (End o) bar = inl (set_broken at refl tt (bar _ refl))
ruled_by {p = p} (behind_bracket {t = t} {n = n} {ns = ns} {us = us} h y e at) (Byte b c o) bar =
    closed_ruled p (Byte b c o) t (ns ++ us) n (sign_of b c) refl
ruled_by (behind_bracket h y e at) (Gap o) bar = inr refl
ruled_by (behind_bracket h y e at) (End o) bar = tt

-- where the reader stops
pub ruled : {p : List Token} {q : State} → Standing sale p q → (x : Token) → Ruled p x q (turn sale q x)
ruled s x = ruled_by s.text x (λ f e. barred s e)
