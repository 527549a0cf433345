-- A text without its blanks is as the rule has it. Assumes nothing.
use Rattle.std.proofs.Common.{◌≡◌, ℕ, ◌+◌, Bool, true, false, cond, ◌||◌, List, [], ◌∷◌, ◌++◌, length, sym, refl, ap, ◌∙◌, subst, append_assoc, add-zero, add_assoc, arith, length-append}
use Rattle.std.proofs.lemmas.Bool.{and_parts, and_from, cond-true, cond-false, both_ways}
use Rattle.digit_map.specs.declared.token.Token.{Token}
use Rattle.digit_map.specs.declared.token.Token.TheVariants.{Gap}
use Rattle.digit_map.specs.Bytes.{blank, joint}
use Rattle.digit_map.specs.Tokens.{joint_ahead, token, tokens}
use Rattle.digit_map.specs.Spacing.{all_blank, begins, Spaced, nothing, byte, run, gapless, Spaces_taken_out}

-- the run of blanks that stands right before what is left of a text
pub data Run : Type 0 where
  none : Run
  some : ℕ → List ℕ → Run

-- what is left, with the run before it
abbrev pub with_run : Run → List ℕ → List ℕ
with_run none xs = xs
with_run (some w ws) xs = (w ∷ ws) ++ xs

-- blanks may stand in what is left, for what is before it
abbrev pub loose : Run → Bool → Bool
loose none j = j
loose (some w ws) j = true

-- the offset behind the run
abbrev pub past : Run → ℕ → ℕ
past none o = o
past (some w ws) o = o + length (w ∷ ws)

-- the run is one of blanks, with a joint on a side
abbrev pub Ready : Run → Bool → List ℕ → Type 0
Ready none j xs = Unit {0}
Ready (some w ws) j xs = (all_blank (w ∷ ws) ≡ true) × ((j || joint_ahead xs) ≡ true)

-- a run with one more blank
pub blanks_push : (ws : List ℕ) (b : ℕ) → all_blank ws ≡ true → blank b ≡ true
    → all_blank (ws ++ b ∷ []) ≡ true
blanks_push [] b e f = and_from (blank b) true f refl
blanks_push (w ∷ ws) b e f =
    let a = and_parts (blank w) (all_blank ws) e in
    and_from (blank w) (all_blank (ws ++ b ∷ [])) a.0 (blanks_push ws b a.1 f)

-- the offset behind it
pub past_push : (o : ℕ) (ws : List ℕ) (b : ℕ) → (o + length ws) + 1 ≡ o + length (ws ++ b ∷ [])
past_push o ws b = simp length-append (add_assoc o (length ws) 1)

-- the tokens of what is left are as the rule has them with the run
abbrev Fits : Run → Bool → ℕ → List ℕ → Type 0
Fits g j o xs = gapless (tokens (loose g j) (past g o) xs) ≡ true
    → Spaced j o (with_run g xs) (tokens (loose g j) (past g o) xs)

-- so it is for a shorter text
abbrev Shorter : List ℕ → Type 0
Shorter bs = (g : Run) (j : Bool) (o : ℕ) → Ready g j bs → Fits g j o bs

-- the tokens from a byte on, by whether it is a blank and whether blanks may stand here
abbrev pub either : ℕ → List ℕ → ℕ → Bool → Bool → List Token
either b bs o x y =
    cond x (cond y (tokens true (o + 1) bs) (Gap o ∷ [])) (token b bs o ∷ tokens (joint b) (o + 1) bs)

-- a byte behind no run
here : (b : ℕ) (bs : List ℕ) (j : Bool) (o : ℕ) → Shorter bs → (x : Bool) → blank b ≡ x
    → (y : Bool) → (j || joint_ahead bs) ≡ y → gapless (either b bs o x y) ≡ true
    → Spaced j o (b ∷ bs) (either b bs o x y)
here b bs j o ih true e true f q = ih (some b []) j o (and_from (blank b) true e refl, f) q
here b bs j o ih true e false f q = absurd (both_ways false refl q)
here b bs j o ih false e y f q = byte e (ih none (joint b) (o + 1) tt q)

-- a byte behind a run
there : (w : ℕ) (ws : List ℕ) (b : ℕ) (bs : List ℕ) (j : Bool) (o : ℕ) → all_blank (w ∷ ws) ≡ true
    → Shorter bs → (x : Bool) → blank b ≡ x → (j || cond x (joint_ahead bs) (joint b)) ≡ true
    → gapless (either b bs (o + length (w ∷ ws)) x true) ≡ true
    → Spaced j o ((w ∷ ws) ++ (b ∷ bs)) (either b bs (o + length (w ∷ ws)) x true)
there w ws b bs j o a ih true e f q =
    let k = past_push o (w ∷ ws) b in
    let P : ℕ → Type 0 = λ k. Spaced j o ((w ∷ ws) ++ (b ∷ bs)) (tokens true k bs) in
    subst P (sym k) (rw append_assoc at (ih (some w (ws ++ b ∷ [])) j o (blanks_push (w ∷ ws) b a e, f)
    (ap (λ k. gapless (tokens true k bs)) (sym k) ∙ q)))
there w ws b bs j o a ih false e f q =
    run w ws a f e (byte e (ih none (joint b) (o + length (w ∷ ws) + 1) tt q))

-- tokens with no gap are as the rule has them
spaces_sound : (xs : List ℕ) (g : Run) (j : Bool) (o : ℕ) → Ready g j xs → Fits g j o xs
spaces_sound [] none j o r p = nothing
spaces_sound [] (some w ws) j o r p = run w ws r.0 r.1 refl nothing
spaces_sound (b ∷ bs) none j o r p =
    here b bs j o (spaces_sound bs) (blank b) refl (j || joint_ahead bs) refl p
spaces_sound (b ∷ bs) (some w ws) j o r p =
    there w ws b bs j o r.0 (spaces_sound bs) (blank b) refl r.1 p

-- behind a whole run the text goes on with its next byte
pub ahead_run : (ws bs : List ℕ) → all_blank ws ≡ true → begins blank bs ≡ false
    → joint_ahead (ws ++ bs) ≡ begins joint bs
ahead_run [] [] e f = refl
ahead_run [] (b ∷ bs) e f = cond-false _ _ _ f
ahead_run (w ∷ ws) bs e f =
    let a = and_parts (blank w) (all_blank ws) e in
    cond-true _ _ _ a.0 ∙ ahead_run ws bs a.1 f

-- a run that may stand is passed over
pub tokens_run : (ws bs : List ℕ) (o : ℕ) → all_blank ws ≡ true
    → tokens true o (ws ++ bs) ≡ tokens true (o + length ws) bs
tokens_run [] bs o e = simp add-zero
tokens_run (w ∷ ws) bs o e =
    let a = and_parts (blank w) (all_blank ws) e in
    let f : (o + 1) + length ws ≡ o + length (w ∷ ws) = omega arith in
    cond-true _ _ _ a.0 ∙ tokens_run ws bs (o + 1) a.1 ∙ ap (λ k. tokens true k bs) f

-- where no blank stands, it does not matter whether one may
pub tokens_either : (i j : Bool) (o : ℕ) (bs : List ℕ) → begins blank bs ≡ false
    → tokens i o bs ≡ tokens j o bs
tokens_either i j o [] e = refl
tokens_either i j o (b ∷ bs) e = cond-false _ _ _ e ∙ sym (cond-false _ _ _ e)

-- a whole run with a joint on a side is passed over
pub tokens_passed : (j : Bool) (o w : ℕ) (ws bs : List ℕ) → all_blank (w ∷ ws) ≡ true
    → (j || begins joint bs) ≡ true → begins blank bs ≡ false
    → tokens j o ((w ∷ ws) ++ bs) ≡ tokens false (o + length (w ∷ ws)) bs
tokens_passed j o w ws bs a f e =
    let x = and_parts (blank w) (all_blank ws) a in
    let y : (j || joint_ahead (ws ++ bs)) ≡ true = ap (λ y. j || y) (ahead_run ws bs x.1 e) ∙ f in
    let z : tokens true o ((w ∷ ws) ++ bs) ≡ tokens true (o + 1) (ws ++ bs) = cond-true _ _ _ x.0 in
    cond-true _ _ _ x.0 ∙ cond-true _ _ _ y ∙ sym z
    ∙ tokens_run (w ∷ ws) bs o a ∙ tokens_either true false (o + length (w ∷ ws)) bs e

-- what the rule gives are the tokens, with no gap
spaces_complete : {j : Bool} {o : ℕ} {xs : List ℕ} {ts : List Token} → Spaced j o xs ts
    → (tokens j o xs ≡ ts) × (gapless ts ≡ true)
spaces_complete nothing = (refl, refl)
spaces_complete (byte {o = o} {b = b} {bs = bs} e s) =
    let h = spaces_complete s in (cond-false _ _ _ e ∙ ap (λ ts. token b bs o ∷ ts) h.0, h.1)
spaces_complete (run {j = j} {o = o} {bs = bs} w ws a f e s) =
    let h = spaces_complete s in (tokens_passed j o w ws bs a f e ∙ h.0, h.1)

pub spaces_taken_out : Spaces_taken_out
spaces_taken_out text ts = (
  spaces_complete,
  λ x. subst (Spaced false 0 text) x.0 (spaces_sound text none false 0 tt (ap gapless x.0 ∙ x.1)),
)
