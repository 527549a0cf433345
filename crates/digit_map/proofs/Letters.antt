-- A letter T, S, L or Z begins a field where what finishes the text has a colon next. Assumes nothing.
use Rattle.std.proofs.Common.{◌≡◌, ℕ, ◌+◌, Bool, true, false, ◌&&◌, ◌||◌, eqb, leb, List, [], ◌∷◌, ◌++◌, sym, refl, ap, ◌∙◌, subst, ⊎_elim, arith, None, Ok, Err, Result}
use Rattle.std.proofs.lemmas.Bool.{cond_both, cond-false, eqb-true, or_cases}
use Rattle.keypad.specs.declared.timers.Timers.{Timers}
use Rattle.digit_map.specs.declared.fault.Fault.{Fault}
use Rattle.digit_map.specs.declared.fault.Cause.TheVariants as cause
use Rattle.digit_map.specs.declared.sign.Field.{Field}
use Rattle.digit_map.specs.declared.sign.Sign.{Sign}
use Rattle.digit_map.specs.declared.sign.Sign.TheVariants as sign
use Rattle.digit_map.specs.declared.token.Token.{Token}
use Rattle.digit_map.specs.declared.token.Token.TheVariants.{Byte, Gap, End}
use Rattle.digit_map.specs.declared.node.Node.{Node}
use Rattle.digit_map.specs.declared.set.Place.{Place}
use Rattle.digit_map.specs.declared.set.Place.TheVariants as place
use Rattle.digit_map.specs.declared.head.Digits.{Digits}
use Rattle.digit_map.specs.declared.head.Digits.TheVariants as digits
use Rattle.digit_map.specs.declared.progress.Progress.{Progress}
use Rattle.digit_map.specs.declared.progress.Frame.{Frame}
use Rattle.digit_map.specs.declared.progress.Act.{Act}
use Rattle.digit_map.specs.declared.progress.Act.TheVariants.{Go, Put, AddDot, OpenSet, Halt}
use Rattle.digit_map.specs.Faults.{fault}
use Rattle.digit_map.specs.Bytes.{letter, field_letter}
use Rattle.digit_map.specs.Signs.{sign_of}
use Rattle.digit_map.specs.Tokens.{colon_ahead}
use Rattle.digit_map.specs.Nodes.{count_positions}
use Rattle.digit_map.specs.Sets.{set_turn}
use Rattle.digit_map.specs.Fields.{rank, field_turn}
use Rattle.digit_map.specs.Limits.{Limits}
use Rattle.digit_map.specs.Acts.{fresh, acts}
use Rattle.digit_map.specs.Turns.{Spot, in_head, in_field, in_alternative, in_set, closed, State, Turn, on}
use Rattle.digit_map.specs.Turns.{done, bad, state, frame, halts, acted, turn_alternative, turn_head}
use Rattle.digit_map.specs.Turns.{turn_closed, fielded, in_set_turned, turn_at, turn, run, went}
use Rattle.digit_map.proofs.Runs.{Split, run_split}
use Rattle.digit_map.proofs.Shaped.{Shaped}
use Rattle.digit_map.proofs.Flags.{Flagged, Follows}
use Rattle.digit_map.proofs.Finishes.{rest_of}

-- what holds of these letters in either case
module _ (P : ℕ → Type 0) where
  either_case : (c : ℕ) → P c → P (c + 32) → (b : ℕ) → letter c b ≡ true → P b
  either_case c x y b e =
      ⊎_elim (λ h. subst P (sym (eqb-true b c h)) x) (λ h. subst P (sym (eqb-true b (c + 32) h)) y)
      (or_cases (eqb b c) (eqb b (c + 32)) e)

  -- one of four
  by_letter : (b : ℕ) → (letter 84 b ≡ true → P b) → (letter 83 b ≡ true → P b) → (letter 76 b ≡ true → P b) →
      (letter 90 b ≡ true → P b) → field_letter b ≡ true → P b
  by_letter b t s l z e =
      ⊎_elim t
      (λ h. ⊎_elim s (λ k. ⊎_elim l z (or_cases (letter 76 b) (letter 90 b) k))
      (or_cases (letter 83 b) (letter 76 b || letter 90 b) h))
      (or_cases (letter 84 b) (letter 83 b || (letter 76 b || letter 90 b)) e)

  each_letter : P 84 → P 116 → P 83 → P 115 → P 76 → P 108 → P 90 → P 122 →
      (b : ℕ) → field_letter b ≡ true → P b
  each_letter t u s r l k z y b =
      by_letter b (either_case 84 t u b) (either_case 83 s r b) (either_case 76 l k b) (either_case 90 z y b)

-- the signs of these letters, by whether a colon is next
abbrev Fitting : Bool → Sign → Type 0
Fitting a (sign.Keys k) = ⊥
Fitting a (sign.Timer m) = a ≡ false
Fitting a (sign.Field i) = a ≡ true
Fitting a sign.Hold = a ≡ false
Fitting a sign.SetOpen = ⊥
Fitting a sign.Open = ⊥
Fitting a sign.Close = ⊥
Fitting a sign.Bar = ⊥
Fitting a sign.Dot = ⊥
Fitting a sign.End = ⊥
Fitting a sign.Other = a ≡ false

letter_sign : (a : Bool) (b : ℕ) → field_letter b ≡ true → Fitting a (sign_of b a)
letter_sign true = each_letter (λ b. Fitting true (sign_of b true)) refl refl refl refl refl refl refl refl
letter_sign false = each_letter (λ b. Fitting false (sign_of b false)) refl refl refl refl refl refl refl refl

-- no field and no set goes on with one
field_stops : (i : Field) (d : Digits) (b : ℕ) → field_letter b ≡ true → field_turn i d b ≡ None
field_stops i digits.Letter =
    each_letter (λ b. field_turn i digits.Letter b ≡ None) refl refl refl refl refl refl refl refl
field_stops i digits.Colon =
    each_letter (λ b. field_turn i digits.Colon b ≡ None) refl refl refl refl refl refl refl refl
field_stops i (digits.One d) =
    each_letter (λ b. field_turn i (digits.One d) b ≡ None) refl refl refl refl refl refl refl refl
field_stops i (digits.Two v) =
    each_letter (λ b. field_turn i (digits.Two v) b ≡ None) refl refl refl refl refl refl refl refl

set_stops : (q : Place) (k b : ℕ) → field_letter b ≡ true → set_turn q k b ≡ None
set_stops place.Start k =
    each_letter (λ b. set_turn place.Start k b ≡ None) refl refl refl refl refl refl refl refl
set_stops place.Member k =
    each_letter (λ b. set_turn place.Member k b ≡ None) refl refl refl refl refl refl refl refl
set_stops (place.Digit d) k =
    each_letter (λ b. set_turn (place.Digit d) k b ≡ None) refl refl refl refl refl refl refl refl
set_stops (place.From d) k =
    each_letter (λ b. set_turn (place.From d) k b ≡ None) refl refl refl refl refl refl refl refl

-- where a token leads on, what finishes the text goes on with a colon or not
abbrev Colons : Bool → Turn → Type 0
Colons a (on q) = a ≡ colon_ahead (rest_of q.spot)
Colons a (done t ns) = Unit {0}
Colons a (bad f) = Unit {0}

halts_on : (t : Timers) (ns : List Node) (f : Frame) (s : Sign) → Colons false (halts t ns f s)
halts_on t ns f (sign.Keys k) = tt
halts_on t ns f (sign.Timer m) = tt
halts_on t ns f (sign.Field i) = tt
halts_on t ns f sign.Hold = tt
halts_on t ns f sign.SetOpen = tt
halts_on t ns f sign.Open = tt
halts_on t ns f sign.Close = refl
halts_on t ns f sign.Bar = refl
halts_on t ns f sign.Dot = tt
halts_on t ns f sign.End = tt
halts_on t ns f sign.Other = tt

module _ (L : Limits) (a : Bool) (t : Timers) (o : ℕ) where
  module _ (ns : List Node) (f : Frame) (p : Progress) where
    acted_on : (s : Sign) (x : Result Act Fault) → Colons false (acted t ns f p s o x)
    acted_on s (Ok (Go q)) = refl
    acted_on s (Ok (Put x q)) = refl
    acted_on s (Ok (AddDot q)) = refl
    acted_on s (Ok (OpenSet l)) = refl
    acted_on s (Ok Halt) = halts_on t _ f s
    acted_on s (Err e) = tt

    goes_on : (s : Sign) → a ≡ false → Colons a (turn_alternative L t ns f p s o)
    goes_on s e =
        subst (λ v. Colons v (turn_alternative L t ns f p s o)) (sym e)
        (acted_on s (acts L f (count_positions ns) p s o))

    in_alternative_on : (s : Sign) → Fitting a s → Colons a (turn_alternative L t ns f p s o)
    in_alternative_on (sign.Keys k) h = absurd h
    in_alternative_on (sign.Timer m) h = goes_on (sign.Timer m) h
    in_alternative_on (sign.Field i) h = tt
    in_alternative_on sign.Hold h = goes_on sign.Hold h
    in_alternative_on sign.SetOpen h = absurd h
    in_alternative_on sign.Open h = absurd h
    in_alternative_on sign.Close h = absurd h
    in_alternative_on sign.Bar h = absurd h
    in_alternative_on sign.Dot h = absurd h
    in_alternative_on sign.End h = absurd h
    in_alternative_on sign.Other h = goes_on sign.Other h

  in_head_on : (k : ℕ) (s : Sign) → Fitting a s → Colons a (turn_head L t k s o)
  in_head_on k (sign.Keys m) h = absurd h
  in_head_on k (sign.Timer m) h = goes_on [] (frame false 1) fresh (sign.Timer m) h
  in_head_on k (sign.Field i) h =
      cond_both (leb k (rank i)) (on (state t [] (in_field i o digits.Letter))) (bad (fault cause.Head o 0))
      (Colons a) (λ _. h) (λ _. tt)
  in_head_on k sign.Hold h = goes_on [] (frame false 1) fresh sign.Hold h
  in_head_on k sign.SetOpen h = absurd h
  in_head_on k sign.Open h = absurd h
  in_head_on k sign.Close h = absurd h
  in_head_on k sign.Bar h = absurd h
  in_head_on k sign.Dot h = absurd h
  in_head_on k sign.End h = absurd h
  in_head_on k sign.Other h = goes_on [] (frame false 1) fresh sign.Other h

  closed_on : (ns : List Node) (n : ℕ) (s : Sign) → Fitting a s → Colons a (turn_closed t ns n s o)
  closed_on ns n (sign.Keys k) h = tt
  closed_on ns n (sign.Timer m) h = tt
  closed_on ns n (sign.Field i) h = tt
  closed_on ns n sign.Hold h = tt
  closed_on ns n sign.SetOpen h = tt
  closed_on ns n sign.Open h = tt
  closed_on ns n sign.Close h = tt
  closed_on ns n sign.Bar h = tt
  closed_on ns n sign.Dot h = tt
  closed_on ns n sign.End h = tt
  closed_on ns n sign.Other h = tt

  letter_on : (ns : List Node) (s : Spot) (b : ℕ) → field_letter b ≡ true →
      Colons a (turn_at L t ns s (Byte b a o))
  letter_on ns (in_head k) b e = in_head_on k (sign_of b a) (letter_sign a b e)
  letter_on ns (in_field i at d) b e = subst (λ v. Colons a (fielded t i at v)) (sym (field_stops i d b e)) tt
  letter_on ns (in_alternative f p) b e = in_alternative_on ns f p (sign_of b a) (letter_sign a b e)
  letter_on ns (in_set f p l at q k) b e =
      subst (λ v. Colons a (in_set_turned t ns f p l at v)) (sym (set_stops q k b e)) tt
  letter_on ns (closed n) b e = closed_on ns n (sign_of b a) (letter_sign a b e)

went_none : (L : Limits) (x : Turn) → went L x [] ≡ x
went_none L (on w) = refl
went_none L (done t ns) = refl
went_none L (bad f) = refl

module _ (L : Limits) (s q : State) where
  -- the last byte is told apart as what finishes the text has it
  last_by : (b o : ℕ) (a v : Bool) → field_letter b ≡ v → turn L s (Byte b (v && a) o) ≡ on q →
      (v && a) ≡ (v && colon_ahead (rest_of q.spot))
  last_by b o a false e h = refl
  last_by b o a true e h = subst (Colons a) h (letter_on L a s.timers o s.nodes s.spot b e)

  last_flag : (b o : ℕ) (c a : Bool) → c ≡ (field_letter b && a) → run L s (Byte b c o ∷ []) ≡ on q →
      c ≡ (field_letter b && colon_ahead (rest_of q.spot))
  last_flag b o c a e h =
      let k : turn L s (Byte b c o) ≡ on q = sym (went_none L (turn L s (Byte b c o))) ∙ h in
      e ∙ last_by b o a (field_letter b) refl (ap (λ v. turn L s (Byte b v o)) (sym e) ∙ k)

never_last : (p : List Token) (x : Token) (r : List Token) → p ++ x ∷ r ≡ [] → ⊥
never_last [] x r e = let z : ◌≡◌ {A = ℕ} 0 1 = cc in omega arith
never_last (y ∷ p) x r e = let z : ◌≡◌ {A = ℕ} 0 1 = cc in omega arith

module _ (L : Limits) (x : Token) (r : List Token) (q : State) where
  -- tokens read without fault are those of their bytes and of what finishes the text
  pub follows : (p : List Token) (s : State) → Shaped (p ++ x ∷ r) → Flagged (p ++ x ∷ r) → run L s p ≡ on q →
      Follows p (rest_of q.spot)
  follows [] s h f e = tt
  follows (Byte b c o ∷ []) s h f e = (f.0, last_flag L s q b o c f.1.0 f.1.1 e, tt)
  follows (Byte b c o ∷ Byte d v w ∷ p) s h f e =
      let k : Split L (on s) (Byte b c o ∷ []) (Byte d v w ∷ p) q =
      run_split L (Byte b c o ∷ []) (Byte d v w ∷ p) s q e in (
        f.0,
        f.1.1 ∙ ap (λ y. field_letter b && y) (f.1.2 ∙ sym (cond-false _ _ _ f.2.0)),
        follows (Byte d v w ∷ p) k.between h f.2 k.back,
      )
  follows (Byte b c o ∷ Gap w ∷ p) s h f e = absurd (never_last p x r h)
  follows (Byte b c o ∷ End w ∷ p) s h f e = absurd (never_last p x r h)
  follows (Gap o ∷ p) s h f e = absurd (never_last p x r h)
  follows (End o ∷ p) s h f e = absurd (never_last p x r h)
