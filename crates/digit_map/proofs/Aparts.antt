-- A misplaced run of blanks leaves a gap among the tokens. Assumes nothing.
use Rattle.std.proofs.Common.{◌≡◌, ℕ, ◌+◌, Bool, true, false, ◌||◌, List, [], ◌∷◌, ◌++◌, length, sym, refl, ap, ◌∙◌, append_assoc, add-zero, arith, length-append}
use Rattle.std.proofs.lemmas.Bool.{and_parts, or_parts, cond-true, cond-false, both_ways}
use Rattle.digit_map.specs.declared.token.Token.{Token}
use Rattle.digit_map.specs.declared.token.Token.TheVariants.{Gap}
use Rattle.digit_map.specs.Bytes.{blank, joint}
use Rattle.digit_map.specs.Tokens.{token, tokens}
use Rattle.digit_map.specs.Spacing.{all_blank, begins, ends, Spaced, nothing, byte, run, Apart, Misplaced}
use Rattle.digit_map.proofs.Spaces.{ahead_run, tokens_passed}

-- how a text ends is settled by its last bytes
pub ends-++ : (kind : ℕ → Bool) (i : Bool) (ws : List ℕ) (b : ℕ) (p : List ℕ)
    → ends kind i (ws ++ b ∷ p) ≡ ends kind (kind b) p
ends-++ kind i [] b p = refl
ends-++ kind i (w ∷ ws) b p = ends-++ kind (kind w) ws b p

-- a front that ends alike leaves the run apart
pub apart_like : (i j : Bool) (p q back : List ℕ) → ends blank false p ≡ ends blank false q
    → ends joint i p ≡ ends joint j q → Apart i p back → Apart j q back
apart_like i j p q back e f l =
    record {
      blankless = ap (λ x. x || begins blank back) (sym e) ∙ l.blankless;
      jointless = ap (λ x. x || begins joint back) (sym f) ∙ l.jointless;
    }

-- the first blank of a run with no joint on either side is a gap
gap_first : (j : Bool) (o w : ℕ) (ws bs : List ℕ) → all_blank (w ∷ ws) ≡ true → begins blank bs ≡ false
    → (j || begins joint bs) ≡ false → tokens j o ((w ∷ ws) ++ bs) ≡ Gap o ∷ []
gap_first j o w ws bs a e f =
    let x = and_parts (blank w) (all_blank ws) a in
    cond-true _ _ _ x.0 ∙ cond-false _ _ _ (ap (λ y. j || y) (ahead_run ws bs x.1 e) ∙ f)

-- a run of blanks ends with a blank
ends_blank : (i : Bool) (w : ℕ) (ws : List ℕ) → all_blank (w ∷ ws) ≡ true
    → ends blank i ((w ∷ ws) ++ []) ≡ true
ends_blank i w [] a = (and_parts (blank w) true a).0
ends_blank i w (v ∷ ws) a = ends_blank (blank w) v ws (and_parts (blank w) (all_blank (v ∷ ws)) a).1

-- a run apart behind a text that is as the rule has it leaves a gap
apart_gap : {j : Bool} {o : ℕ} {front : List ℕ} {ts : List Token} → Spaced j o front ts
    → (w : ℕ) (ws back : List ℕ) (offset : ℕ) → all_blank (w ∷ ws) ≡ true → Apart j front back
    → offset ≡ o + length front
    → (p : List Token) × (tokens j o (front ++ ((w ∷ ws) ++ back)) ≡ p ++ Gap offset ∷ [])
apart_gap (nothing {j = j} {o = o}) w ws back offset a l k =
    let e = sym (k ∙ add-zero o) in
    ([], gap_first j o w ws back a l.blankless l.jointless ∙ ap (λ n. Gap n ∷ []) e)
apart_gap (byte {j = j} {o = o} {b = b} {bs = bs} e s) w ws back offset a l k =
    let m = apart_like j (joint b) (b ∷ bs) bs back (ap (λ x. ends blank x bs) e) refl l in
    let h = apart_gap s w ws back offset a m (omega arith) in
    let t = token b (bs ++ ((w ∷ ws) ++ back)) o in
    (t ∷ h.0, cond-false _ _ _ e ∙ ap (λ ts. t ∷ ts) h.1)
apart_gap (run {j = j} {o = o} {bs = []} v vs d f e s) w ws back offset a l k =
    absurd (both_ways _ (or_parts _ _ l.blankless).0 (ends_blank false v vs d))
apart_gap (run {j = j} {o = o} {bs = c ∷ cs} v vs d f e s) w ws back offset a l k =
    let q = v ∷ vs in
    let g = ends-++ joint j q c cs in
    let m = apart_like j false (q ++ (c ∷ cs)) (c ∷ cs) back (ends-++ blank false q c cs) g l in
    let h = apart_gap s w ws back offset a m (k ∙ simp length-append (omega arith)) in
    (h.0, ap (tokens j o) (append_assoc q (c ∷ cs) _) ∙ tokens_passed j o v vs _ d f e ∙ h.1)

-- a misplaced run leaves a gap, and nothing behind it
pub misplaced_gap : (text : List ℕ) (o : ℕ) → Misplaced false 0 text o
    → (p : List Token) × (tokens false 0 text ≡ p ++ Gap o ∷ [])
misplaced_gap text o m =
    let h = apart_gap m.before.1 m.first m.more m.back o m.blanks m.apart m.place in
    (h.0, ap (tokens false 0) m.is ∙ h.1)
