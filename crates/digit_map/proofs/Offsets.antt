-- The tokens of a text stand one behind another. Assumes nothing.
use Rattle.std.proofs.Common.{◌≡◌, ℕ, ◌+◌, ◌<◌, ◌≤◌, Bool, true, ◌||◌, List, [], ◌∷◌, ◌++◌, ap, ◌∙◌, subst, arith}
use Rattle.std.proofs.lemmas.Bool.{cond_both}
use Rattle.digit_map.specs.declared.token.Token.{Token}
use Rattle.digit_map.specs.Bytes.{blank, joint}
use Rattle.digit_map.specs.Tokens.{joint_ahead, tokens}
use Rattle.digit_map.specs.Offsets.{at_of, Ascends}

-- tokens from n on are tokens from any earlier offset on
pub ascends_from : (m n : ℕ) (ts : List Token) → m ≤ n → Ascends n ts → Ascends m ts
ascends_from m n [] l h = tt
ascends_from m n (t ∷ ts) l h = let x = h.0 in (omega arith, h.1)

-- the tokens of a text from o on
pub tokens_ascend : (j : Bool) (o : ℕ) (text : List ℕ) → Ascends o (tokens j o text)
tokens_ascend j o [] = (omega arith, tt)
tokens_ascend j o (b ∷ bs) =
    cond_both (blank b) _ _ (Ascends o)
    (λ e. cond_both (j || joint_ahead bs) _ _ (Ascends o)
    (λ f. ascends_from o (o + 1) (tokens true (o + 1) bs) (omega arith) (tokens_ascend true (o + 1) bs))
    (λ f. (omega arith, tt)))
    (λ e. (omega arith, tokens_ascend (joint b) (o + 1) bs))

-- each token stands at the bound or behind it
pub ascends_above : (n : ℕ) (p : List Token) (t : Token) (r : List Token)
    → Ascends n (p ++ t ∷ r) → n ≤ at_of t
ascends_above n [] t r h = h.0
ascends_above n (x ∷ p) t r h =
    let l : n ≤ at_of x = h.0 in
    let k : at_of x + 1 ≤ at_of t = ascends_above (at_of x + 1) p t r h.1 in
    omega arith

-- of two tokens the one in front has the lower offset
pub ascends_between : (n : ℕ) (a b : List Token) (x t : Token) (r : List Token)
    → Ascends n ((a ++ x ∷ b) ++ t ∷ r) → at_of x < at_of t
ascends_between n [] b x t r h =
    let k : at_of x + 1 ≤ at_of t = ascends_above (at_of x + 1) b t r h.1 in
    omega arith
ascends_between n (c ∷ a) b x t r h = ascends_between (at_of c + 1) a b x t r h.1

-- of two neighbours the one in front has the lower offset
pub ascends_next : (n : ℕ) (p : List Token) (x t : Token) (r : List Token)
    → Ascends n (p ++ x ∷ t ∷ r) → at_of x < at_of t
ascends_next n [] x t r h = let k : at_of x + 1 ≤ at_of t = h.1.0 in omega arith
ascends_next n (c ∷ p) x t r h = ascends_next (at_of c + 1) p x t r h.1

-- a token in front of another has the lower offset
pub offset_before : (n : ℕ) (ts p r a b : List Token) (x t : Token) → Ascends n ts
    → ts ≡ p ++ t ∷ r → p ≡ a ++ x ∷ b → at_of x < at_of t
offset_before n ts p r a b x t h e f =
    ascends_between n a b x t r (subst (Ascends n) (e ∙ ap (λ q. q ++ t ∷ r) f) h)
