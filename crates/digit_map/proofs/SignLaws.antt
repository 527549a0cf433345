-- Which bytes have a sign. Assumes nothing.
use Rattle.std.proofs.Common.{◌≡◌, ℕ, Bool, true, ◌&&◌, eqb, subst}
use Rattle.std.proofs.lemmas.Bool.{cond_both, eqb-true, and_parts, or_left, or_right}
use Rattle.digit_map.specs.declared.sign.Field.{Field}
use Rattle.digit_map.specs.declared.sign.Sign.{Sign}
use Rattle.digit_map.specs.declared.sign.Sign.TheVariants as sign
use Rattle.digit_map.specs.Bytes.{digit, letter, field_letter, key_letter_lem}
use Rattle.digit_map.specs.Signs.{sign_of}

-- the byte of a sign that only one byte has
abbrev pub Written : ℕ → Sign → Type 0
Written b (sign.Keys k) = Unit {0}
Written b (sign.Timer m) = Unit {0}
Written b (sign.Field i) = Unit {0}
Written b sign.Hold = Unit {0}
Written b sign.SetOpen = b ≡ 91
Written b sign.Open = b ≡ 40
Written b sign.Close = b ≡ 41
Written b sign.Bar = b ≡ 124
Written b sign.Dot = b ≡ 46
Written b sign.End = ⊥
Written b sign.Other = Unit {0}

written : (b : ℕ) (c : Bool) → Written b (sign_of b c)
written b c =
    cond_both (digit b) _ _ (Written b) (λ _. tt)
    (λ _. cond_both (key_letter_lem b) _ _ (Written b) (λ _. tt)
    (λ _. cond_both (letter 88 b) _ _ (Written b) (λ _. tt)
    (λ _. cond_both (letter 84 b && c) _ _ (Written b) (λ _. tt)
    (λ _. cond_both (letter 83 b && c) _ _ (Written b) (λ _. tt)
    (λ _. cond_both (letter 76 b && c) _ _ (Written b) (λ _. tt)
    (λ _. cond_both (letter 90 b && c) _ _ (Written b) (λ _. tt)
    (λ _. cond_both (letter 83 b) _ _ (Written b) (λ _. tt)
    (λ _. cond_both (letter 76 b) _ _ (Written b) (λ _. tt)
    (λ _. cond_both (letter 90 b) _ _ (Written b) (λ _. tt)
    (λ _. cond_both (eqb b 91) _ _ (Written b) (eqb-true b 91)
    (λ _. cond_both (eqb b 40) _ _ (Written b) (eqb-true b 40)
    (λ _. cond_both (eqb b 41) _ _ (Written b) (eqb-true b 41)
    (λ _. cond_both (eqb b 124) _ _ (Written b) (eqb-true b 124)
    (λ _. cond_both (eqb b 46) _ _ (Written b) (eqb-true b 46)
    (λ _. tt)))))))))))))))

pub byte_of : (b : ℕ) (c : Bool) (s : Sign) → sign_of b c ≡ s → Written b s
byte_of b c s e = subst (Written b) e (written b c)

-- the letter of a sign that begins a field
abbrev Lettered : ℕ → Sign → Type 0
Lettered b (sign.Keys k) = Unit {0}
Lettered b (sign.Timer m) = Unit {0}
Lettered b (sign.Field i) = field_letter b ≡ true
Lettered b sign.Hold = Unit {0}
Lettered b sign.SetOpen = Unit {0}
Lettered b sign.Open = Unit {0}
Lettered b sign.Close = Unit {0}
Lettered b sign.Bar = Unit {0}
Lettered b sign.Dot = Unit {0}
Lettered b sign.End = Unit {0}
Lettered b sign.Other = Unit {0}

named_letter : (b : ℕ) (l : ℕ) (c : Bool) → (letter l b ≡ true → field_letter b ≡ true) →
    (letter l b && c) ≡ true → field_letter b ≡ true
named_letter b l c f h = f (and_parts (letter l b) c h).0

lettered : (b : ℕ) (c : Bool) → Lettered b (sign_of b c)
lettered b c =
    cond_both (digit b) _ _ (Lettered b) (λ _. tt)
    (λ _. cond_both (key_letter_lem b) _ _ (Lettered b) (λ _. tt)
    (λ _. cond_both (letter 88 b) _ _ (Lettered b) (λ _. tt)
    (λ _. cond_both (letter 84 b && c) _ _ (Lettered b) (named_letter b 84 c (or_left _ _))
    (λ _. cond_both (letter 83 b && c) _ _ (Lettered b)
    (named_letter b 83 c (λ h. or_right (letter 84 b) _ (or_left _ _ h)))
    (λ _. cond_both (letter 76 b && c) _ _ (Lettered b)
    (named_letter b 76 c (λ h. or_right (letter 84 b) _ (or_right (letter 83 b) _ (or_left _ _ h))))
    (λ _. cond_both (letter 90 b && c) _ _ (Lettered b)
    (named_letter b 90 c (λ h. or_right (letter 84 b) _
    (or_right (letter 83 b) _ (or_right (letter 76 b) _ h))))
    (λ _. cond_both (letter 83 b) _ _ (Lettered b) (λ _. tt)
    (λ _. cond_both (letter 76 b) _ _ (Lettered b) (λ _. tt)
    (λ _. cond_both (letter 90 b) _ _ (Lettered b) (λ _. tt)
    (λ _. cond_both (eqb b 91) _ _ (Lettered b) (λ _. tt)
    (λ _. cond_both (eqb b 40) _ _ (Lettered b) (λ _. tt)
    (λ _. cond_both (eqb b 41) _ _ (Lettered b) (λ _. tt)
    (λ _. cond_both (eqb b 124) _ _ (Lettered b) (λ _. tt)
    (λ _. cond_both (eqb b 46) _ _ (Lettered b) (λ _. tt)
    (λ _. tt)))))))))))))))

pub field_letter_of : (b : ℕ) (c : Bool) (i : Field) → sign_of b c ≡ sign.Field i → field_letter b ≡ true
field_letter_of b c i e = subst (Lettered b) e (lettered b c)
