-- Each gap among the tokens shows a misplaced run of blanks. Assumes nothing.
use Rattle.std.proofs.Common.{◌≡◌, ℕ, ◌+◌, Bool, true, false, cond, ◌||◌, List, [], ◌∷◌, ◌++◌, length, sym, refl, ap, ◌∙◌, subst, ⊎_elim, append_assoc, add-zero, arith, length-append}
use Rattle.std.proofs.lemmas.Bool.{and_from, cond-true, cond-false, cases_Bool}
use Rattle.digit_map.specs.declared.token.Token.{Token}
use Rattle.digit_map.specs.declared.token.Token.TheVariants.{Byte, Gap, End}
use Rattle.digit_map.specs.Bytes.{blank, joint}
use Rattle.digit_map.specs.Tokens.{joint_ahead, token, tokens}
use Rattle.digit_map.specs.Spacing.{all_blank, begins, ends, Spaced, nothing, byte, run}
use Rattle.digit_map.specs.Spacing.{Apart, Misplaced, GapAt}
use Rattle.digit_map.proofs.Aparts.{ends-++, apart_like, misplaced_gap}
use Rattle.digit_map.proofs.Spaces.{Run, none, some, with_run, loose, past, Ready, blanks_push, past_push}
use Rattle.digit_map.proofs.Spaces.{either}

-- a text's first blanks, and what stands behind them
record Blanks_first (bs : List ℕ) : Type 0 where
  blanks : List ℕ
  back : List ℕ
  is : bs ≡ blanks ++ back
  all : all_blank blanks ≡ true
  whole : begins blank back ≡ false
  ahead : joint_ahead bs ≡ begins joint back

-- with one more blank, and with none
more_blanks : (b : ℕ) (bs : List ℕ) → blank b ≡ true → Blanks_first bs → Blanks_first (b ∷ bs)
more_blanks b bs e h =
    record {
      blanks = b ∷ h.blanks;
      back = h.back;
      is = ap (λ xs. b ∷ xs) h.is;
      all = and_from _ _ e h.all;
      whole = h.whole;
      ahead = cond-true _ _ _ e ∙ h.ahead;
    }

no_blanks : (b : ℕ) (bs : List ℕ) → blank b ≡ false → Blanks_first (b ∷ bs)
no_blanks b bs e =
    record { blanks = []; back = b ∷ bs; is = refl; all = refl; whole = e; ahead = cond-false _ _ _ e }

-- each text has its first blanks
first_blanks : (bs : List ℕ) → Blanks_first bs
first_blanks [] = record { blanks = []; back = []; is = refl; all = refl; whole = refl; ahead = refl }
first_blanks (b ∷ bs) =
    ⊎_elim (λ e. more_blanks b bs e (first_blanks bs)) (no_blanks b bs) (cases_Bool (blank b))

-- a misplaced run, by its parts
placed : {j : Bool} {o : ℕ} {text : List ℕ} {offset : ℕ} (front : List ℕ) (w : ℕ) (ws back : List ℕ)
    → text ≡ front ++ ((w ∷ ws) ++ back) → offset ≡ o + length front → all_blank (w ∷ ws) ≡ true
    → Apart j front back → (ts : List Token) → Spaced j o front ts → Misplaced j o text offset
placed front w ws back e k a l ts s =
    record {
      front = front;
      first = w;
      more = ws;
      back = back;
      is = e;
      place = k;
      blanks = a;
      apart = l;
      before = (ts, s);
    }

-- a run that has no joint on either side
misplaced_here : (b : ℕ) (bs : List ℕ) (j : Bool) (o : ℕ) → blank b ≡ true → (j || joint_ahead bs) ≡ false
    → Misplaced j o (b ∷ bs) o
misplaced_here b bs j o e f =
    let h = first_blanks bs in
    let g = ap (λ y. j || y) (sym h.ahead) ∙ f in
    placed [] b h.blanks h.back (ap (λ xs. b ∷ xs) h.is) (sym (add-zero o)) (and_from _ _ e h.all)
    (record { blankless = h.whole; jointless = g }) (End o ∷ []) nothing

-- a run that is misplaced behind a byte
behind_byte : (b : ℕ) (bs : List ℕ) (j : Bool) (o offset : ℕ) → blank b ≡ false
    → Misplaced (joint b) (o + 1) bs offset → Misplaced j o (b ∷ bs) offset
behind_byte b bs j o offset e m =
    let p = m.front in
    let l = apart_like _ j p (b ∷ p) _ (sym (ap (λ x. ends blank x p) e)) refl m.apart in
    placed (b ∷ p) m.first m.more m.back (ap (λ xs. b ∷ xs) m.is) (omega arith) m.blanks l
    (token b p o ∷ m.before.0) (byte e m.before.1)

-- a run that is misplaced behind a byte that follows a run which is not
behind_run : (w : ℕ) (ws : List ℕ) (b : ℕ) (bs : List ℕ) (j : Bool) (o offset : ℕ) → all_blank (w ∷ ws) ≡ true
    → (j || joint b) ≡ true → blank b ≡ false → Misplaced (joint b) (o + length (w ∷ ws) + 1) bs offset
    → Misplaced j o ((w ∷ ws) ++ (b ∷ bs)) offset
behind_run w ws b bs j o offset a f e m =
    let p = m.front in
    let q = (w ∷ ws) ++ (b ∷ p) in
    let g = ends-++ blank false (w ∷ ws) b p ∙ ap (λ x. ends blank x p) e in
    let l = apart_like _ j p q _ (sym g) (sym (ends-++ joint j (w ∷ ws) b p)) m.apart in
    let k = ap (λ xs. (w ∷ ws) ++ (b ∷ xs)) m.is ∙ sym (append_assoc (w ∷ ws) (b ∷ p) _) in
    placed q m.first m.more m.back k (simp length-append (omega arith)) m.blanks l
    (token b p (o + length (w ∷ ws)) ∷ m.before.0) (run w ws a f e (byte e m.before.1))

-- a gap among the tokens of what is left shows a misplaced run
abbrev Shows : Run → Bool → ℕ → List ℕ → Type 0
Shows g j o xs = (p r : List Token) (offset : ℕ)
    → tokens (loose g j) (past g o) xs ≡ p ++ Gap offset ∷ r → Misplaced j o (with_run g xs) offset

-- a gap that is the only token
gap_alone : (o offset : ℕ) (p r : List Token) → Gap o ∷ [] ≡ p ++ Gap offset ∷ r → o ≡ offset
gap_alone o offset [] r e = cc
gap_alone o offset (x ∷ []) r e = cc
gap_alone o offset (x ∷ y ∷ p) r e = cc

-- the end is no gap
gap_ended : (o offset : ℕ) (p r : List Token) → End o ∷ [] ≡ p ++ Gap offset ∷ r → ⊥
gap_ended o offset [] r e = let z : ◌≡◌ {A = ℕ} 0 1 = cc in omega arith
gap_ended o offset (x ∷ []) r e = let z : ◌≡◌ {A = ℕ} 0 1 = cc in omega arith
gap_ended o offset (x ∷ y ∷ p) r e = let z : ◌≡◌ {A = ℕ} 0 1 = cc in omega arith

-- behind a byte the gap is among the tokens that follow
gap_later : (b : ℕ) (c : Bool) (o offset : ℕ) (ts p r : List Token) → Byte b c o ∷ ts ≡ p ++ Gap offset ∷ r
    → (q : List Token) × (ts ≡ q ++ Gap offset ∷ r)
gap_later b c o offset ts [] r e = let z : ◌≡◌ {A = ℕ} 0 1 = cc in absurd (omega arith)
gap_later b c o offset ts (x ∷ p) r e = (p, cc)

-- so it is for a shorter text
abbrev Shown : List ℕ → Type 0
Shown bs = (g : Run) (j : Bool) (o : ℕ) → Ready g j bs → Shows g j o bs

-- from a byte on that follows no run
shows_here : (b : ℕ) (bs : List ℕ) (j : Bool) (o : ℕ) → Shown bs → (x : Bool) → blank b ≡ x
    → (y : Bool) → (j || joint_ahead bs) ≡ y → (p r : List Token) (offset : ℕ)
    → either b bs o x y ≡ p ++ Gap offset ∷ r → Misplaced j o (b ∷ bs) offset
shows_here b bs j o ih true e true f p r offset q =
    ih (some b []) j o (and_from (blank b) true e refl, f) p r offset q
shows_here b bs j o ih true e false f p r offset q =
    subst (Misplaced j o (b ∷ bs)) (gap_alone o offset p r q) (misplaced_here b bs j o e f)
shows_here b bs j o ih false e y f p r offset q =
    let h = gap_later _ _ _ _ _ p r q in
    behind_byte b bs j o offset e (ih none (joint b) (o + 1) tt h.0 r offset h.1)

-- from a byte on that follows a run
shows_there : (w : ℕ) (ws : List ℕ) (b : ℕ) (bs : List ℕ) (j : Bool) (o : ℕ) → all_blank (w ∷ ws) ≡ true
    → Shown bs → (x : Bool) → blank b ≡ x → (j || cond x (joint_ahead bs) (joint b)) ≡ true
    → (p r : List Token) (offset : ℕ) → either b bs (o + length (w ∷ ws)) x true ≡ p ++ Gap offset ∷ r
    → Misplaced j o ((w ∷ ws) ++ (b ∷ bs)) offset
shows_there w ws b bs j o a ih true e f p r offset q =
    rw append_assoc at (ih (some w (ws ++ b ∷ [])) j o (blanks_push (w ∷ ws) b a e, f) p r offset
    (ap (λ k. tokens true k bs) (sym (past_push o (w ∷ ws) b)) ∙ q))
shows_there w ws b bs j o a ih false e f p r offset q =
    let h = gap_later _ _ _ _ _ p r q in
    behind_run w ws b bs j o offset a f e
    (ih none (joint b) (o + length (w ∷ ws) + 1) tt h.0 r offset h.1)

-- by the text's length
gap_shows : (xs : List ℕ) (g : Run) (j : Bool) (o : ℕ) → Ready g j xs → Shows g j o xs
gap_shows [] none j o a p r offset q = absurd (gap_ended o offset p r q)
gap_shows [] (some w ws) j o a p r offset q = absurd (gap_ended _ offset p r q)
gap_shows (b ∷ bs) none j o a p r offset q =
    shows_here b bs j o (gap_shows bs) (blank b) refl (j || joint_ahead bs) refl p r offset q
gap_shows (b ∷ bs) (some w ws) j o a p r offset q =
    shows_there w ws b bs j o a.0 (gap_shows bs) (blank b) refl a.1 p r offset q

pub gap_misplaced : (text : List ℕ) (o : ℕ) → GapAt text o
gap_misplaced text o = record {
  misplaced = λ p r e. gap_shows text none false 0 tt p r o e;
  shown =
      misplaced_gap text o;
}
