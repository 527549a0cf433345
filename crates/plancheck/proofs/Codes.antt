-- What a code keeps of its letters. Assumes nothing.
use Rattle.std.proofs.Common.{◌≡◌, ℕ, ◌-◌, ◌<◌, ◌≤◌, cond, nat_lt, ◌⊎◌, List, [], ◌∷◌, map, IfOk, Ok, Err, Result, sym, ◌∙◌, subst, inl, inr, arith}
use Rattle.keypad.specs.Letters.{letter_of, Letter}
use Rattle.std.proofs.lemmas.Bool.{cases_lt}
use Rattle.std.proofs.lemmas.Bool.Decides.{nat_tests}
use Rattle.std.specs.List.{AllZip}
use Rattle.plancheck.specs.Letters.{CodeLetter}

-- what is kept of a letter: its key, or 16
abbrev pub code_number : ℕ → ℕ
code_number b =
    cond (nat_lt b 48) 16 (cond (nat_lt b 58) (b - 48) (cond (nat_lt b 65) 16 (cond (nat_lt b 71) (b - 55) 16)))

number_key : (b k : ℕ) → k < 16 → b ≡ letter_of k → k ≡ code_number b
number_key b k small e = grind (arith, nat_tests)

digit_letter : (b : ℕ) → 48 ≤ b → b < 58 → Letter b (b - 48)
digit_letter b x y = (omega arith, grind (arith, nat_tests))

capital_letter : (b : ℕ) → 65 ≤ b → b < 71 → Letter b (b - 55)
capital_letter b x y = (omega arith, grind (arith, nat_tests))

number_none : (b : ℕ) → (48 ≤ b → b < 58 → ⊥) → (65 ≤ b → b < 71 → ⊥) → code_number b ≡ 16
number_none b low high = grind (arith, nat_tests)

key_range_at : (b k : ℕ) → k < 16 → b ≡ letter_of k → (k < 10) ⊎ (10 ≤ k) →
    ((48 ≤ b) × (b < 58)) ⊎ ((65 ≤ b) × (b < 71))
key_range_at b k small e (inl x) = inl (grind (arith, nat_tests), grind (arith, nat_tests))
key_range_at b k small e (inr x) = inr (grind (arith, nat_tests), grind (arith, nat_tests))

key_range : (b k : ℕ) → k < 16 → b ≡ letter_of k → ((48 ≤ b) × (b < 58)) ⊎ ((65 ≤ b) × (b < 71))
key_range b k small e = key_range_at b k small e (cases_lt k 10)

letter_range : (b : ℕ) → ((48 ≤ b) × (b < 58)) ⊎ ((65 ≤ b) × (b < 71)) → (48 ≤ b → b < 58 → ⊥) →
    (65 ≤ b → b < 71 → ⊥) → ⊥
letter_range b (inl x) low high = low x.0 x.1
letter_range b (inr x) low high = high x.0 x.1

-- a letter that is a key's is a digit or a capital
letter_bounds : (b k : ℕ) → k < 16 → b ≡ letter_of k → (48 ≤ b → b < 58 → ⊥) → (65 ≤ b → b < 71 → ⊥) → ⊥
letter_bounds b k small e low high = letter_range b (key_range b k small e) low high

no_key : (b k : ℕ) → Letter b k → (b < 48) ⊎ (((58 ≤ b) × (b < 65)) ⊎ (71 ≤ b)) → ⊥
no_key b k h (inl x) = letter_bounds b k h.0 h.1 (λ y z. omega arith) (λ y z. omega arith)
no_key b k h (inr (inl x)) = letter_bounds b k h.0 h.1 (λ y z. omega (arith, x.0)) (λ y z. omega (arith, x.1))
no_key b k h (inr (inr x)) = letter_bounds b k h.0 h.1 (λ y z. omega arith) (λ y z. omega arith)

pub same_number : (b n : ℕ) → CodeLetter b n → n ≡ code_number b
same_number b n (inl h) = number_key b n h.0 h.1
same_number b n (inr h) =
    h.1 ∙ sym (number_none b (λ x y. h.0 (b - 48) (digit_letter b x y))
    (λ x y. h.0 (b - 55) (capital_letter b x y)))

-- a number for each letter
number_letter : (b : ℕ) → (b < 48) ⊎ (48 ≤ b) → (b < 58) ⊎ (58 ≤ b) → (b < 65) ⊎ (65 ≤ b) →
    (b < 71) ⊎ (71 ≤ b) → CodeLetter b (code_number b)
number_letter b (inr x) (inl y) v w =
    let e : code_number b ≡ b - 48 = grind (arith, nat_tests) in
    inl (subst (λ k. Letter b k) (sym e) (digit_letter b x y))
number_letter b u v (inr x) (inl y) =
    let e : code_number b ≡ b - 55 = grind (arith, nat_tests) in
    inl (subst (λ k. Letter b k) (sym e) (capital_letter b x y))
number_letter b (inl x) v (inl z) w = inr (λ k h. no_key b k h (inl x), grind (arith, nat_tests))
number_letter b (inl x) v (inr z) (inr w) = absurd (omega arith)
number_letter b (inr x) (inr y) (inl z) w = inr (λ k h. no_key b k h (inr (inl (y, z))), grind (arith, nat_tests))
number_letter b (inr x) (inr y) (inr z) (inr w) = inr (λ k h. no_key b k h (inr (inr w)), grind (arith, nat_tests))

kept_number : (b : ℕ) → CodeLetter b (code_number b)
kept_number b = number_letter b (cases_lt b 48) (cases_lt b 58) (cases_lt b 65) (cases_lt b 71)

kept_numbers : (bs : List ℕ) → AllZip CodeLetter bs (map code_number bs)
kept_numbers [] = tt
kept_numbers (b ∷ bs) = (kept_number b, kept_numbers bs)

-- the numbers of a text are what is kept of it
pub kept_code : {V E : Type 0} (items : V → List ℕ) (bs : List ℕ) (r : Result V E) →
    IfOk r (λ v. items v ≡ map code_number bs) → IfOk r (λ v. AllZip CodeLetter bs (items v))
kept_code items bs (Ok v) h = subst (λ (ns : List ℕ). AllZip CodeLetter bs ns) (sym h) (kept_numbers bs)
kept_code items bs (Err e) h = tt
