-- The keys that a set has. Assumes nothing.
use Rattle.std.proofs.Common.{◌≡◌, ℕ, zero, suc, ◌+◌, ◌/◌, ◌%◌, ◌^◌, ◌<◌, ◌≤◌, Bool, true, false, ◌&&◌, ◌||◌, eqb, ltb, leb, sym, refl, ap, ◌∙◌, ⊎_elim, arith, lit<}
use lib.Bits.{bit_or, or_add_and}
use Rattle.std.proofs.lemmas.Bool.Decides.{Decides-below_and, nat_tests}
use Rattle.std.proofs.lemmas.Nat.{or_shr, or_mod, or_lt, and_le_l, pow_pos, pow_below, leading_top, mod_below, div_below, le-div}
use Rattle.std.proofs.lemmas.Bool.{or_cases, eq-eqb}
use Rattle.digit_map.specs.Sets.{span}
use Rattle.digit_map.specs.Masks.{has}

-- two answers are one
abbrev same : Bool → Bool → Bool
same true b = b
same false true = false
same false false = true

-- answers that are one by the test are equal
same_is : (x y : Bool) → same x y ≡ true → x ≡ y
same_is true y e = sym e
same_is false true e = e
same_is false false e = refl

-- the test holds of each number below n
abbrev every : (ℕ → Bool) → ℕ → Bool
every f zero = true
every f (suc n) = f n && every f n

-- and so of one of them
every_at : (f : ℕ → Bool) (n : ℕ) → every f n ≡ true → (k : ℕ) → k < n → f k ≡ true
every_at f n e k h =
    (Decides-below_and f (λ x. f x ≡ true) (every f) (λ x. ((λ e. e), (λ e. e))) refl (λ _. refl) n).0 e k h

-- bit k of the keys from a to b, if a is not above b
abbrev span_bit : ℕ → ℕ → ℕ → Bool
span_bit a b k = ltb b a || same (has (span a b) k) (leb a k && leb k b)

-- each bit of each span, case by case
span_bits : every (λ a. every (λ b. every (λ k. span_bit a b k) 16) 10) 10 ≡ true
span_bits = refl

-- the keys from a to b are those between the two
pub has_span : (a b k : ℕ) → a ≤ b → b < 10 → k < 16 → has (span a b) k ≡ (leb a k && leb k b)
has_span a b k h l u =
    let p = every_at (λ a. every (λ b. every (λ k. span_bit a b k) 16) 10) 10 span_bits a (omega arith) in
    let q = every_at (λ b. every (λ k. span_bit a b k) 16) 10 p b l in
    let r = every_at (λ k. span_bit a b k) 16 q k u in
    ⊎_elim (λ x. absurd (low x)) (λ x. same_is _ _ x) (or_cases (ltb b a) _ r)
  where
    low : ltb b a ≡ true → ⊥
    low x = grind (arith, nat_tests)

-- each bit of each key's own set, case by case
one_bits : every (λ j. every (λ k. same (has (2 ^ j) k) (eqb k j)) 16) 16 ≡ true
one_bits = refl

-- a key's own set has that key only
pub has_one : (j k : ℕ) → j < 16 → k < 16 → has (2 ^ j) k ≡ eqb k j
has_one j k h l =
    same_is _ _ (every_at (λ k. same (has (2 ^ j) k) (eqb k j)) 16
    (every_at (λ j. every (λ k. same (has (2 ^ j) k) (eqb k j)) 16) 16 one_bits j h) k l)

-- x stands for the keys 0 to 9
pub has_digits : (k : ℕ) → k < 16 → has 1023 k ≡ ltb k 10
has_digits k h = same_is _ _ (every_at (λ k. same (has 1023 k) (ltb k 10)) 16 refl k h)

-- one bit of either
or_two : (x y : ℕ) → x < 2 → y < 2 → eqb (bit_or x y) 1 ≡ (eqb x 1 || eqb y 1)
or_two zero zero h l = refl
or_two zero (suc zero) h l = refl
or_two (suc zero) zero h l = refl
or_two (suc zero) (suc zero) h l = refl
or_two zero (suc (suc y)) h l = absurd (omega arith)
or_two (suc zero) (suc (suc y)) h l = absurd (omega arith)
or_two (suc (suc x)) y h l = absurd (omega arith)

-- two sets together have the keys of either
pub has_or : (m n k : ℕ) → has (bit_or m n) k ≡ (has m k || has n k)
has_or m n k =
    ap (λ x. eqb x 1) (ap (λ x. x % 2) (or_shr m n k) ∙ or_mod (m / 2 ^ k) (n / 2 ^ k) 1)
    ∙ or_two _ _ (mod_below (m / 2 ^ k) 2 (omega arith)) (mod_below (n / 2 ^ k) 2 (omega arith))

-- a set that is not empty has a key
pub some_key : (m : ℕ) → 0 < m → m < 2 ^ 16 → (k : ℕ) × (k < 16) × (has m k ≡ true)
some_key m h l =
    let t = leading_top 16 m h l in
    let j = t.0 in
    let low : 1 ≤ m / 2 ^ j = le-div 1 m (2 ^ j) (pow_pos j) (omega arith) in
    let high : m / 2 ^ j < 2 = div_below m (2 ^ j) 2 (pow_pos j) (omega arith) in
    let one : m / 2 ^ j ≡ 1 = omega arith in
    (j, omega arith, eq-eqb _ _ (ap (λ x. x % 2) one))

-- what a member of a set writes is not empty
pub one_above : (k : ℕ) → 0 < 2 ^ k
one_above k = pow_pos k

pub span_above : (a b : ℕ) → a ≤ b → 0 < span a b
span_above a b h = let l = pow_below a (b + 1) (omega arith) in omega arith

-- two sets together are not empty where one is not
pub or_above : (m n : ℕ) → 0 < n → 0 < bit_or m n
or_above m n h = let e = or_add_and m n in let l = and_le_l m n in omega arith

-- what a member of a set writes has keys below 16 only
pub one_below : (k : ℕ) → k < 16 → 2 ^ k < 2 ^ 16
one_below k h = pow_below k 16 h

pub digits_below : 1023 < 2 ^ 16
digits_below = lit< tt

pub span_below : (a b : ℕ) → b < 10 → span a b < 2 ^ 16
span_below a b h = let l = pow_below (b + 1) 16 (omega arith) in omega arith

pub or_below : (m n : ℕ) → m < 2 ^ 16 → n < 2 ^ 16 → bit_or m n < 2 ^ 16
or_below m n h l = or_lt 16 m n h l
