-- A fault that shows stops the reader, at a fault that comes before it. Assumes nothing.
use Rattle.std.proofs.Common.{◌≡◌, ℕ, ◌<◌, ◌≤◌, Bool, true, false, not, eqb, leb, ◌⊎◌, List, [], ◌∷◌, ◌++◌, sym, refl, ap, ◌∙◌, subst, inl, inr, append_assoc, arith, lit<, Some, None, Option, Result}
use Rattle.std.proofs.lemmas.Bool.Decides.{nat_tests}
use Rattle.std.proofs.lemmas.Bool.{cond-true, cond-false, lt-leb, le-ltb, and_left, and_right, cases_lt, not_from_false}
use Rattle.keypad.specs.declared.timers.Timers.{Timers}
use Rattle.digit_map.specs.declared.fault.Cause.TheVariants as cause
use Rattle.digit_map.specs.declared.fault.Fault.{Fault}
use Rattle.digit_map.specs.declared.sign.Field.{Field}
use Rattle.digit_map.specs.declared.sign.Sign.{Sign}
use Rattle.digit_map.specs.declared.sign.Sign.TheVariants as sign
use Rattle.digit_map.specs.declared.token.Token.{Token}
use Rattle.digit_map.specs.declared.token.Token.TheVariants.{Byte, Gap, End}
use Rattle.digit_map.specs.declared.node.Node.{Node}
use Rattle.digit_map.specs.declared.head.Digits.{Digits}
use Rattle.digit_map.specs.declared.head.Digits.TheVariants.{Letter, Colon, One, Two}
use Rattle.digit_map.specs.declared.head.FieldTurn.{FieldTurn}
use Rattle.digit_map.specs.declared.head.FieldTurn.TheVariants as field
use Rattle.digit_map.specs.declared.set.SetTurn.{SetTurn}
use Rattle.digit_map.specs.declared.set.SetTurn.TheVariants as set
use Rattle.digit_map.specs.declared.progress.Last.{Last}
use Rattle.digit_map.specs.declared.progress.Last.TheVariants as last
use Rattle.digit_map.specs.declared.progress.Progress.{Progress}
use Rattle.digit_map.specs.declared.progress.Frame.{Frame}
use Rattle.digit_map.specs.declared.progress.Act.{Act}
use Rattle.digit_map.specs.Faults.{cause_number, fault}
use Rattle.digit_map.specs.Bytes.{digit, field_letter}
use Rattle.digit_map.specs.Signs.{sign_of}
use Rattle.digit_map.specs.Offsets.{at_of, Ascends}
use Rattle.digit_map.specs.Nodes.{count_positions}
use Rattle.digit_map.specs.Fields.{rank, field_turn}
use Rattle.digit_map.specs.Limits.{sale}
use Rattle.digit_map.specs.Acts.{wrong, has_room, in_number_lem, if_held, unless_held, at_dot, at_halt}
use Rattle.digit_map.specs.Turns.{State, Turn, on, done, bad, state, frame, in_alternative, turn, turn_head}
use Rattle.digit_map.specs.Turns.{turn_alternative, turn_closed, acted, fielded, in_set_turned}
use Rattle.digit_map.specs.Grammar as g
use Rattle.digit_map.specs.Grammar.{Begun, Final, nothing, mark, dot}
use Rattle.digit_map.specs.Standing.{Read, free, held, Stands, in_the_head}
use Rattle.digit_map.specs.Standing.{in_a_field, in_an_alternative, in_a_set, behind_bracket, Standing}
use Rattle.digit_map.specs.Situations.{token_sign_lem, Solid, number_at, Outside, FieldMay, InField, InSet}
use Rattle.digit_map.specs.Situations.{LastPosition, LastHold, LastFree, LastNeedless, BehindPosition}
use Rattle.digit_map.specs.Situations.{BehindHold, AtElement, Ends, EndsNeedless, TakesZ, BeginsPosition}
use Rattle.digit_map.specs.Situations.{BeginsElement}
use Rattle.digit_map.specs.Shows.{Barred, Faulty, field_misplaced, field_broken, set_broken}
use Rattle.digit_map.specs.Shows.{dot_misplaced, hold_misplaced, keyless, position_excess}
use Rattle.digit_map.specs.Shows.{alternative_excess, Before}
use Rattle.digit_map.proofs.SignLaws.{byte_of, field_letter_of}
use Rattle.digit_map.proofs.Leads.{Leads}
use Rattle.digit_map.proofs.Exact.{leads}
use Rattle.digit_map.proofs.Offsets.{ascends_between}

-- the fault that the reader stops at
pub record Blamed (q : State) (x : Token) (f : Fault) : Type 0 where
  pub found : Fault
  pub is : turn sale q x ≡ bad found
  pub before : Before found f
  pub named : cause_number found.cause ≡ 3 → ⊥

exactly : {q : State} {x : Token} (f : Fault) → turn sale q x ≡ bad f → (cause_number f.cause ≡ 3 → ⊥) →
    Blamed q x f
exactly f e n = record { found = f; is = e; before = inr (refl, omega arith); named = n }

-- a field's fault comes before all others
head_first : {q : State} {x : Token} (f : Fault) (o : ℕ) → turn sale q x ≡ bad (fault cause.Head o 0) →
    2 < cause_number f.cause → Blamed q x f
head_first f o e h = record { found = fault cause.Head o 0; is = e; before = inl h; named = λ z. omega arith }

-- a lower offset comes first
lower : {q : State} {x : Token} (f d : Fault) → turn sale q x ≡ bad d → f.cause ≡ d.cause →
    d.offset ≤ f.offset → (cause_number d.cause ≡ 3 → ⊥) → Blamed q x f
lower f d e c h n = record { found = d; is = e; before = inr (ap cause_number (sym c), h); named = n }

no_colon : (b : ℕ) → field_letter b ≡ true → eqb b 58 ≡ false
no_colon b e = grind (arith, nat_tests)

no_digit : (b : ℕ) → field_letter b ≡ true → digit b ≡ false
no_digit b e = grind (arith, nat_tests)

no_comma : (b : ℕ) → field_letter b ≡ true → eqb b 44 ≡ false
no_comma b e = grind (arith, nat_tests)

-- a letter that begins a field does not go on with another
letter_breaks : (i : Field) (d : Digits) (b : ℕ) → field_letter b ≡ true → field_turn i d b ≡ None
letter_breaks i Letter b e = cond-false _ _ _ (no_colon b e)
letter_breaks i Colon b e = cond-false _ _ _ (no_digit b e)
letter_breaks i (One d) b e = cond-false _ _ _ (and_left _ _ (no_digit b e))
    ∙ cond-false _ _ _ (and_left _ _ (no_comma b e))
letter_breaks i (Two v) b e = cond-false _ _ _ (no_comma b e)

dot_breaks : (i : Field) (d : Digits) → field_turn i d 46 ≡ None
dot_breaks i Letter = refl
dot_breaks i Colon = refl
dot_breaks i (One d) = refl
dot_breaks i (Two v) = refl

record First (u : List Token) (at : ℕ) : Type 0 where
  head : Token
  tail : List Token
  is : u ≡ head ∷ tail
  offset : at_of head ≡ at

first_more : {u : List Token} {at : ℕ} (v : List Token) → First u at → First (u ++ v) at
first_more v f = record {
  head = f.head;
  tail = f.tail ++ v;
  is = ap (λ w. w ++ v) f.is;
  offset =
      f.offset;
}

begun_first : {u : List Token} {i : Field} {at : ℕ} {d : Digits} → Begun u i at d → First u at
begun_first (g.letter b c o i e) = record { head = Byte b c o; tail = []; is = refl; offset = refl }
begun_first (g.colon x c o) = first_more _ (begun_first x)
begun_first (g.one x b c o e) = first_more _ (begun_first x)
begun_first (g.two x b c o e f) = first_more _ (begun_first x)

field_before : (n : ℕ) (s u : List Token) (at : ℕ) (x : Token) (r : List Token) → First u at →
    Ascends n ((s ++ u) ++ x ∷ r) → at < at_of x
field_before n s u at x r f h =
    let k : Ascends n ((s ++ (f.head ∷ f.tail)) ++ x ∷ r) = subst (λ v. Ascends n ((s ++ v) ++ x ∷ r))
    f.is h in
    let j = ascends_between n s f.tail f.head x r k in let o = f.offset in omega arith

hold_before : (n : ℕ) (s u : List Token) (d : ℕ) (c : Bool) (z : ℕ) (x : Token) (r : List Token) →
    Ascends n ((s ++ (u ++ Byte d c z ∷ [])) ++ x ∷ r) → z < at_of x
hold_before n s u d c z x r h =
    ascends_between n (s ++ u) [] (Byte d c z) x r
    (subst (λ v. Ascends n (v ++ x ∷ r)) (sym (append_assoc s u (Byte d c z ∷ []))) h)

above : (k n : ℕ) → (k ≤ n → ⊥) → n < k
above k n h = by (cases_lt n k)
  where
    by : (n < k) ⊎ (k ≤ n) → n < k
    by (inl y) = y
    by (inr y) = absurd (h y)

-- a token that is not allowed stops the reader
stopped : {p : List Token} {x : Token} (y : Turn) → Leads sale p x y → Barred p x → (f : Fault) × (y ≡ bad f)
stopped (on w) l b = absurd (b.no_place w l)
stopped (done t ns) l b = absurd (b.no_map t ns l)
stopped (bad f) l b = (f, refl)

field_fault : (t : Timers) (i : Field) (at : ℕ) (y : Option FieldTurn) (f : Fault)
    → fielded t i at y ≡ bad f →
    fielded t i at y ≡ bad (fault cause.Head at 0)
field_fault t i at (Some (field.On d)) f e = let z : ◌≡◌ {A = ℕ} 0 1 = cc in absurd (omega arith)
field_fault t i at (Some (field.Done v)) f e = let z : ◌≡◌ {A = ℕ} 0 1 = cc in absurd (omega arith)
field_fault t i at None f e = refl

set_fault : (t : Timers) (ns : List Node) (f : Frame) (r : Progress) (l : Bool) (at : ℕ) (y : Option SetTurn)
    (d : Fault) → in_set_turned t ns f r l at y ≡ bad d →
    in_set_turned t ns f r l at y ≡ bad (fault cause.Set at f.number)
set_fault t ns f r l at (Some (set.On q k)) d e = let z : ◌≡◌ {A = ℕ} 0 1 = cc in absurd (omega arith)
set_fault t ns f r l at (Some (set.Done k)) d e = let z : ◌≡◌ {A = ℕ} 0 1 = cc in absurd (omega arith)
set_fault t ns f r l at None d e = refl

-- a token of a sign in an alternative
module _ (t : Timers) (ns : List Node) (f : Frame) (r : Progress) where
  abbrev inside : State
  inside = state t ns (in_alternative f r)

  abbrev Stops : Token → Fault → Type 0
  Stops x d = turn sale inside x ≡ bad d

  sign_stops : (b : ℕ) (c : Bool) (o : ℕ) (s : Sign) (d : Fault) → sign_of b c ≡ s →
      turn_alternative sale t ns f r s o ≡ bad d → Stops (Byte b c o) d
  sign_stops b c o s d e h = ap (λ v. turn_alternative sale t ns f r v o) e ∙ h

  dot_stops : (l : Last) → r.last ≡ l → (b : ℕ) (c : Bool) (o : ℕ) → sign_of b c ≡ sign.Dot →
      (LastPosition r.last → ⊥) →
      ((z : ℕ) → LastHold z r.last → z ≤ o) → Blamed inside (Byte b c o) (fault cause.Affix o f.number)
  dot_stops last.Nothing h b c o e n k = exactly _
      (sign_stops b c o sign.Dot _ e (ap (λ l. acted t ns f r sign.Dot o (at_dot f.number r o l)) h))
      (λ z. omega arith)
  dot_stops last.Mark h b c o e n k = exactly _
      (sign_stops b c o sign.Dot _ e (ap (λ l. acted t ns f r sign.Dot o (at_dot f.number r o l)) h))
      (λ z. omega arith)
  dot_stops last.Position h b c o e n k = absurd (n (subst LastPosition (sym h) tt))
  dot_stops last.Dot h b c o e n k = exactly _
      (sign_stops b c o sign.Dot _ e (ap (λ l. acted t ns f r sign.Dot o (at_dot f.number r o l)) h))
      (λ z. omega arith)
  dot_stops (last.Hold z) h b c o e n k =
      lower _ (fault cause.Affix z f.number)
      (sign_stops b c o sign.Dot _ e (ap (λ l. acted t ns f r sign.Dot o (at_dot f.number r o l)) h)) refl
      (k z (subst (LastHold z) (sym h) refl)) (λ y. omega arith)

  delayed : (l : Last) (z : ℕ) → l ≡ last.Hold z → (a : Result Act Fault)
      → unless_held f.number l a ≡ wrong f.number cause.Affix z
  delayed l z h a = ap (λ w. unless_held f.number w a) h

  -- a Z that waits stops at whatever is no position
  hold_stops : (z : ℕ) → r.last ≡ last.Hold z → (x : Token) (o : ℕ) (s : Sign) → (TakesZ s → ⊥) →
      turn sale inside x ≡ turn_alternative sale t ns f r s o →
      Blamed inside x (fault cause.Affix z f.number)
  hold_stops z h x o (sign.Keys k) n e = absurd (n tt)
  hold_stops z h x o (sign.Timer m) n e =
      exactly _ (e ∙ ap (acted t ns f r (sign.Timer m) o) (delayed r.last z h _)) (λ y. omega arith)
  hold_stops z h x o (sign.Field i) n e = head_first _ o e (lit< tt)
  hold_stops z h x o sign.Hold n e = exactly _
      (e ∙ ap (acted t ns f r sign.Hold o) (delayed r.last z h _)) (λ y. omega arith)
  hold_stops z h x o sign.SetOpen n e = absurd (n tt)
  hold_stops z h x o sign.Open n e = exactly _
      (e ∙ ap (acted t ns f r sign.Open o) (delayed r.last z h _)) (λ y. omega arith)
  hold_stops z h x o sign.Close n e = exactly _
      (e ∙ ap (λ l. acted t ns f r sign.Close o (at_halt f.number r o f.bracketed true l)) h)
      (λ y. omega arith)
  hold_stops z h x o sign.Bar n e = exactly _
      (e ∙ ap (λ l. acted t ns f r sign.Bar o (at_halt f.number r o f.bracketed true l)) h) (λ y. omega arith)
  hold_stops z h x o sign.Dot n e = exactly _
      (e ∙ ap (λ l. acted t ns f r sign.Dot o (at_dot f.number r o l)) h)
      (λ y. omega arith)
  hold_stops z h x o sign.End n e =
      exactly _ (e ∙ ap (λ l. acted t ns f r sign.End o
      (at_halt f.number r o (not f.bracketed) (not f.bracketed) l)) h) (λ y. omega arith)
  hold_stops z h x o sign.Other n e = exactly _
      (e ∙ ap (acted t ns f r sign.Other o) (delayed r.last z h _)) (λ y. omega arith)

  waits : (o : ℕ) (l : Last) → r.last ≡ l → LastHold o r.last → r.last ≡ last.Hold o
  waits o last.Nothing h w = absurd (subst (LastHold o) h w)
  waits o last.Mark h w = absurd (subst (LastHold o) h w)
  waits o last.Position h w = absurd (subst (LastHold o) h w)
  waits o last.Dot h w = absurd (subst (LastHold o) h w)
  waits o (last.Hold z) h w = h ∙ ap last.Hold (subst (LastHold o) h w)

  misplaced_hold : (x : Token) (z : ℕ) → LastHold z r.last → Solid x → (TakesZ (token_sign_lem x) → ⊥) →
      Blamed inside x (fault cause.Affix z f.number)
  misplaced_hold (Byte b c o) z w d n = hold_stops z (waits z r.last refl w) (Byte b c o) o
      (sign_of b c) n refl
  misplaced_hold (Gap o) z w d n = absurd d
  misplaced_hold (End o) z w d n = hold_stops z (waits z r.last refl w) (End o) o sign.End n refl

  -- an alternative that needs no key stops where it is judged
  needless_stops : (l : Last) → r.last ≡ l → LastNeedless r.needs r.last →
      (s : Sign) (o : ℕ) (here : Bool) →
      acted t ns f r s o (at_halt f.number r o here true r.last) ≡ bad (fault cause.Keyless r.first f.number)
  needless_stops last.Nothing h w s o here = absurd (subst (LastNeedless r.needs) h w)
  needless_stops last.Mark h w s o here =
      ap (λ l. acted t ns f r s o (at_halt f.number r o here true l)) h
      ∙ ap (acted t ns f r s o) (cond-true _ _ _
      (not_from_false r.needs (subst (LastNeedless r.needs) h w)))
  needless_stops last.Position h w s o here = absurd (subst (LastNeedless r.needs) h w)
  needless_stops last.Dot h w s o here =
      ap (λ l. acted t ns f r s o (at_halt f.number r o here true l)) h
      ∙ ap (acted t ns f r s o) (cond-true _ _ _
      (not_from_false r.needs (subst (LastNeedless r.needs) h w)))
  needless_stops (last.Hold z) h w s o here = absurd (subst (LastNeedless r.needs) h w)

  ends_needless : (s : Sign) → Ends f.bracketed s → LastNeedless r.needs r.last → (o : ℕ) →
      turn_alternative sale t ns f r s o ≡ bad (fault cause.Keyless r.first f.number)
  ends_needless (sign.Keys k) y w o = absurd y
  ends_needless (sign.Timer m) y w o = absurd y
  ends_needless (sign.Field i) y w o = absurd y
  ends_needless sign.Hold y w o = absurd y
  ends_needless sign.SetOpen y w o = absurd y
  ends_needless sign.Open y w o = absurd y
  ends_needless sign.Close y w o = needless_stops r.last refl w sign.Close o f.bracketed
  ends_needless sign.Bar y w o = needless_stops r.last refl w sign.Bar o f.bracketed
  ends_needless sign.Dot y w o = absurd y
  ends_needless sign.End y w o =
      ap (λ b. acted t ns f r sign.End o (at_halt f.number r o (not b) (not b) r.last)) y
      ∙ needless_stops r.last refl w sign.End o true
  ends_needless sign.Other y w o = absurd y

  turn_by : (x : Token) → Solid x → turn sale inside x ≡ turn_alternative sale t ns f r (token_sign_lem x)
      (at_of x)
  turn_by (Byte b c o) d = refl
  turn_by (Gap o) d = absurd d
  turn_by (End o) d = refl

  ends_solid : (x : Token) → Ends f.bracketed (token_sign_lem x) → Solid x
  ends_solid (Byte b c o) y = tt
  ends_solid (Gap o) y = y
  ends_solid (End o) y = tt

  element_solid : (x : Token) → BeginsElement (token_sign_lem x) → Solid x
  element_solid (Byte b c o) y = tt
  element_solid (Gap o) y = y
  element_solid (End o) y = tt

  not_kept : (l : Last) → LastFree l → (a b : Result Act Fault) → if_held l a b ≡ b
  not_kept last.Nothing h a b = refl
  not_kept last.Mark h a b = refl
  not_kept last.Position h a b = refl
  not_kept last.Dot h a b = refl
  not_kept (last.Hold z) h a b = absurd h

  not_delayed : (l : Last) → LastFree l → (a : Result Act Fault) → unless_held f.number l a ≡ a
  not_delayed last.Nothing h a = refl
  not_delayed last.Mark h a = refl
  not_delayed last.Position h a = refl
  not_delayed last.Dot h a = refl
  not_delayed (last.Hold z) h a = absurd h

  -- without room no position begins
  no_room : (s : Sign) → BeginsPosition s → LastFree r.last → has_room sale f (count_positions ns)
      ≡ false → (o : ℕ) →
      turn_alternative sale t ns f r s o ≡ bad (fault cause.Excess o f.number)
  no_room (sign.Keys k) y l h o = ap (acted t ns f r (sign.Keys k) o)
      (not_kept r.last l _ _ ∙ cond-false _ _ _ h)
  no_room (sign.Timer m) y l h o = absurd y
  no_room (sign.Field i) y l h o = absurd y
  no_room sign.Hold y l h o = ap (acted t ns f r sign.Hold o) (not_delayed r.last l _ ∙ cond-false _ _ _ h)
  no_room sign.SetOpen y l h o = ap (acted t ns f r sign.SetOpen o)
      (not_kept r.last l _ _ ∙ cond-false _ _ _ h)
  no_room sign.Open y l h o = absurd y
  no_room sign.Close y l h o = absurd y
  no_room sign.Bar y l h o = absurd y
  no_room sign.Dot y l h o = absurd y
  no_room sign.End y l h o = absurd y
  no_room sign.Other y l h o = absurd y

  -- nor any element in an alternative too many
  no_number : (s : Sign) → BeginsElement s → LastFree r.last → in_number_lem sale f ≡ false → (o : ℕ) →
      turn_alternative sale t ns f r s o ≡ bad (fault cause.Excess o f.number)
  no_number (sign.Keys k) y l h o = no_room (sign.Keys k) tt l (and_left _ _ h) o
  no_number (sign.Timer m) y l h o = ap (acted t ns f r (sign.Timer m) o)
      (not_delayed r.last l _ ∙ cond-false _ _ _ h)
  no_number (sign.Field i) y l h o = absurd y
  no_number sign.Hold y l h o = no_room sign.Hold tt l (and_left _ _ h) o
  no_number sign.SetOpen y l h o = no_room sign.SetOpen tt l (and_left _ _ h) o
  no_number sign.Open y l h o = absurd y
  no_number sign.Close y l h o = absurd y
  no_number sign.Bar y l h o = absurd y
  no_number sign.Dot y l h o = absurd y
  no_number sign.End y l h o = absurd y
  no_number sign.Other y l h o = absurd y

is_element : (s : Sign) → BeginsPosition s → BeginsElement s
is_element (sign.Keys k) b = tt
is_element (sign.Timer m) b = tt
is_element (sign.Field i) b = b
is_element sign.Hold b = tt
is_element sign.SetOpen b = tt
is_element sign.Open b = b
is_element sign.Close b = b
is_element sign.Bar b = b
is_element sign.Dot b = b
is_element sign.End b = b
is_element sign.Other b = b

-- a Z that waits stands before the token
waiting_before : (n : ℕ) (r s : List Token) {u : List Token} {us : List Node} {l : Bool} {p : Progress} →
    Read u us l p → (x : Token) → Ascends n ((s ++ u) ++ x ∷ r) →
    (z : ℕ) → LastHold z p.last → z ≤ at_of x
waiting_before n r s (free {e = nothing} y) x a z h = absurd h
waiting_before n r s (free {e = mark} y) x a z h = absurd h
waiting_before n r s (free {e = g.place} y) x a z h = absurd h
waiting_before n r s (free {e = dot} y) x a z h = absurd h
waiting_before n r s (held {u = v} y d i j k) x a z h = let l = hold_before n s v d i j x r a in omega arith

module _ (n : ℕ) (r : List Token) where
  misplaced_field : {p : List Token} {q : State} → Stands p q → (x : Token) → Ascends n (p ++ x ∷ r) →
      (i : Field) → token_sign_lem x ≡ sign.Field i →
      Outside q.spot → (FieldMay i q.spot → ⊥) → Blamed q x (fault cause.Head (at_of x) 0)
  misplaced_field s (Gap o) a i e out may = let z : ◌≡◌ {A = ℕ} 0 1 = cc in absurd (omega arith)
  misplaced_field s (End o) a i e out may = let z : ◌≡◌ {A = ℕ} 0 1 = cc in absurd (omega arith)
  misplaced_field (in_the_head {t = t} {k = k} h) (Byte b c o) a i e out may =
      exactly _ (ap (λ v. turn_head sale t k v o) e
      ∙ cond-false _ _ _ (lt-leb k (rank i) (above k (rank i) may))) (λ z. omega arith)
  misplaced_field (in_a_field {s = s} {u = u} {t = t} {o = at} {i = j} {d = d} h le y)
      (Byte b c o) a i e out may =
      let k = field_before n s u at (Byte b c o) r (begun_first y) a in
      lower (fault cause.Head o 0) (fault cause.Head at 0)
      (ap (fielded t j at) (letter_breaks j d b (field_letter_of b c i e))) refl (omega arith)
      (λ z. omega arith)
  misplaced_field (in_an_alternative {t = t} {b = j} {n = m} {ns = ns} {us = us} {p = v} h y w)
      (Byte b c o) a i e out may =
      exactly (fault cause.Head o 0) (ap (λ z. turn_alternative sale t (ns ++ us) (frame j m) v z o) e)
      (λ z. omega arith)
  misplaced_field (in_a_set h y d at z) (Byte b c o) a i e out may = absurd out
  misplaced_field (behind_bracket {t = t} {n = m} {ns = ns} {us = us} h y d at) (Byte b c o) a i e out may =
      exactly _ (ap (λ z. turn_closed t (ns ++ us) m z o) e) (λ z. omega arith)

  broken_field : {p : List Token} {q : State} → Standing sale p q → Stands p q → (x : Token) → (o : ℕ) →
      InField o q.spot → Solid x → Barred p x →
      Blamed q x (fault cause.Head o 0)
  broken_field st (in_the_head h) x o e d b = absurd e
  broken_field st (in_a_field {t = t} {o = at} {i = j} {d = v} h le y) (Byte m c z) o e d b =
      let f = stopped _ (leads sale st (Byte m c z)) b in
      exactly _ (field_fault t j at (field_turn j v m) f.0 f.1
      ∙ ap (λ w. bad (fault cause.Head w 0)) e) (λ z. omega arith)
  broken_field st (in_a_field h le y) (Gap z) o e d b = absurd d
  broken_field st (in_a_field h le y) (End z) o e d b = exactly _ (ap (λ w. bad (fault cause.Head w 0)) e)
      (λ z. omega arith)
  broken_field st (in_an_alternative h y w) x o e d b = absurd e
  broken_field st (in_a_set h y c at z) x o e d b = absurd e
  broken_field st (behind_bracket h y c at) x o e d b = absurd e

  broken_set : {p : List Token} {q : State} → Standing sale p q → Stands p q → (x : Token) → (o : ℕ) →
      InSet o q.spot → Solid x → Barred p x →
      Blamed q x (fault cause.Set o (number_at q.spot))
  broken_set st (in_the_head h) x o e d b = absurd e
  broken_set st (in_a_field h le y) x o e d b = absurd e
  broken_set st (in_an_alternative h y w) x o e d b = absurd e
  broken_set st (in_a_set {t = t} {n = m} {ns = ns} {us = us} {l = l} {p = v} h y i at w)
      (Byte j c z) o e d b =
      let f = stopped _ (leads sale st (Byte j c z)) b in
      exactly _ (set_fault t (ns ++ us) _ v l at _ f.0 f.1 ∙ ap (λ w. bad (fault cause.Set w m)) e)
      (λ z. omega arith)
  broken_set st (in_a_set h y i at w) (Gap z) o e d b = absurd d
  broken_set st (in_a_set {n = m} h y i at w) (End z) o e d b =
      exactly _ (ap (λ w. bad (fault cause.Set w m)) e) (λ z. omega arith)
  broken_set st (behind_bracket h y c at) x o e d b = absurd e

  misplaced_dot : {p : List Token} {q : State} → Stands p q → (x : Token) → Ascends n (p ++ x ∷ r) →
      token_sign_lem x ≡ sign.Dot →
      Outside q.spot → (BehindPosition q.spot → ⊥) →
      Blamed q x (fault cause.Affix (at_of x) (number_at q.spot))
  misplaced_dot s (Gap o) a e out may = let z : ◌≡◌ {A = ℕ} 0 1 = cc in absurd (omega arith)
  misplaced_dot s (End o) a e out may = let z : ◌≡◌ {A = ℕ} 0 1 = cc in absurd (omega arith)
  misplaced_dot (in_the_head {t = t} {k = k} h) (Byte b c o) a e out may =
      exactly _ (ap (λ v. turn_head sale t k v o) e) (λ z. omega arith)
  misplaced_dot (in_a_field {t = t} {o = at} {i = j} {d = d} h le y) (Byte b c o) a e out may =
      head_first _ at (ap (λ v. fielded t j at (field_turn j d v)) (byte_of b c sign.Dot e)
      ∙ ap (fielded t j at) (dot_breaks j d)) (lit< tt)
  misplaced_dot (in_an_alternative {s = s} {t = t} {b = j} {n = m} {ns = ns} {us = us} {p = v} h y w)
      (Byte b c o) a e out may =
      dot_stops t (ns ++ us) (frame j m) v v.last refl b c o e may (waiting_before n r s y (Byte b c o) a)
  misplaced_dot (in_a_set h y d at z) (Byte b c o) a e out may = absurd out
  misplaced_dot (behind_bracket {t = t} {n = m} {ns = ns} {us = us} h y d at) (Byte b c o) a e out may =
      exactly _ (ap (λ z. turn_closed t (ns ++ us) m z o) e) (λ z. omega arith)

  misplaced_z : {p : List Token} {q : State} → Stands p q → (x : Token) (o : ℕ) → BehindHold o q.spot →
      Solid x → (TakesZ (token_sign_lem x) → ⊥) →
      Blamed q x (fault cause.Affix o (number_at q.spot))
  misplaced_z (in_the_head h) x o e d b = absurd e
  misplaced_z (in_a_field h le y) x o e d b = absurd e
  misplaced_z (in_an_alternative {t = t} {b = j} {n = m} {ns = ns} {us = us} {p = v} h y w) x o e d b =
      misplaced_hold t (ns ++ us) (frame j m) v x o e d b
  misplaced_z (in_a_set h y c at z) x o e d b = absurd e
  misplaced_z (behind_bracket h y c at) x o e d b = absurd e

  needless : {p : List Token} {q : State} → Stands p q → (x : Token) (o : ℕ) →
      EndsNeedless o (token_sign_lem x) q.spot → Blamed q x (fault cause.Keyless o (number_at q.spot))
  needless (in_the_head h) x o e = absurd e
  needless (in_a_field h le y) x o e = absurd e
  needless (in_an_alternative {t = t} {b = j} {n = m} {ns = ns} {us = us} {p = v} h y w) x o e =
      exactly _
      (turn_by t (ns ++ us) (frame j m) v x (ends_solid t (ns ++ us) (frame j m) v x e.2)
      ∙ (ends_needless t (ns ++ us) (frame j m) v (token_sign_lem x) e.2 e.0 (at_of x)
      ∙ ap (λ z. bad (fault cause.Keyless z m)) e.1))
      (λ z. omega arith)
  needless (in_a_set h y c at z) x o e = absurd e
  needless (behind_bracket h y c at) x o e = absurd e

  full : {p : List Token} {q : State} → Stands p q → (x : Token) → AtElement q.spot →
      255 ≤ count_positions q.nodes → BeginsPosition (token_sign_lem x) →
      Blamed q x (fault cause.Excess (at_of x) (number_at q.spot))
  full (in_the_head h) x e k b = absurd e
  full (in_a_field h le y) x e k b = absurd e
  full (in_an_alternative {t = t} {b = j} {n = m} {ns = ns} {us = us} {p = v} h y w) x e k b =
      exactly _
      (turn_by t (ns ++ us) (frame j m) v x
      (element_solid t (ns ++ us) (frame j m) v x (is_element (token_sign_lem x) b))
      ∙ no_room t (ns ++ us) (frame j m) v (token_sign_lem x) b e
      (and_right (leb m 64) _ (le-ltb (count_positions (ns ++ us)) 255 k)) (at_of x))
      (λ z. omega arith)
  full (in_a_set h y c at z) x e k b = absurd e
  full (behind_bracket h y c at) x e k b = absurd e

  one_too_many : {p : List Token} {q : State} → Stands p q → (x : Token) → AtElement q.spot →
      64 < number_at q.spot → BeginsElement (token_sign_lem x) →
      Blamed q x (fault cause.Excess (at_of x) (number_at q.spot))
  one_too_many (in_the_head h) x e k b = absurd e
  one_too_many (in_a_field h le y) x e k b = absurd e
  one_too_many (in_an_alternative {t = t} {b = j} {n = m} {ns = ns} {us = us} {p = v} h y w) x e k b =
      exactly _
      (turn_by t (ns ++ us) (frame j m) v x (element_solid t (ns ++ us) (frame j m) v x b)
      ∙ no_number t (ns ++ us) (frame j m) v (token_sign_lem x) b e (lt-leb m 64 k) (at_of x))
      (λ z. omega arith)
  one_too_many (in_a_set h y c at z) x e k b = absurd e
  one_too_many (behind_bracket h y c at) x e k b = absurd e

  pub shown : {p : List Token} {q : State} → Standing sale p q → (x : Token) → Ascends n (p ++ x ∷ r) →
      {f : Fault} → Faulty p q x f → Blamed q x f
  shown st x a (field_misplaced i e out may) = misplaced_field st.text x a i e out may
  shown st x a (field_broken o e d b) = broken_field st st.text x o e d b
  shown st x a (set_broken o e d b) = broken_set st st.text x o e d b
  shown st x a (dot_misplaced e out may) = misplaced_dot st.text x a e out may
  shown st x a (hold_misplaced o w d m) = misplaced_z st.text x o w d m
  shown st x a (keyless o e) = needless st.text x o e
  shown st x a (position_excess e k b) = full st.text x e k b
  shown st x a (alternative_excess e k b) = one_too_many st.text x e k b
