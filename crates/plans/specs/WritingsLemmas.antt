-- Decimal places of a number, and its writing as the one list of so many digits. Assumes nothing.
use Rattle.std.specs.Prelude.{◌≡◌, ℕ, zero, suc, ◌+◌, ◌*◌, ◌/◌, ◌%◌, ◌^◌, ◌<◌, ◌≤◌, List, [], ◌∷◌, length, refl}
use Rattle.std.proofs.Common.{sym, ◌∙◌, ap, pow-suc, mod-lt, add-mul, mul_assoc, add-one, arith}
use Rattle.std.proofs.Math.Nat.{pow-succ', one-le-pow, pow-le-pow_right, div-div-eq-div-mul}
use Rattle.std.proofs.Math.Arith.{digits_div, digits_mod, mod-mul}
use Rattle.std.proofs.lemmas.Nat.{div_below, div-add-mod'}
use Rattle.std.proofs.lemmas.Int.Digits.{number_lt}
use Rattle.std.specs.Int.Digits.{number_from_digits, number_from_digits_after, AllBelowBase}
use Rattle.plans.specs.Writings.{writing, WritingStands}

pub ten_pos : (k : ℕ) → 0 < 10 ^ k
ten_pos k = omega (arith, one-le-pow k 10 (omega arith))

-- a number of at most six digits
pub below_million : (t p : ℕ) → t ≤ 6 → p < 10 ^ t → p < 1000000
below_million t p few below =
    omega (arith, below, pow-le-pow_right {n = 10} (omega arith) {i = t} {j = 6} few)

-- a digit more
pub below_more_digits : (t p d : ℕ) → p < 10 ^ t → d < 10 → p * 10 + d < 10 ^ (t + 1)
below_more_digits t p d below small = rw add-one (omega (arith, pow-succ' 10 t))

-- the first of k + 1 digits, and the digits behind it
pub lead : (n k : ℕ) → n % 10 ^ suc k / 10 ^ k ≡ n / 10 ^ k % 10
lead n k = let c = 10 ^ k in
    ap (λ (x : ℕ). n % x / c) (pow-succ' 10 k)
    ∙ ap (λ (x : ℕ). x / c) (mod-mul n {m = 10} {c = c} (omega arith) (ten_pos k))
    ∙ digits_div (n / c % 10) (mod-lt n (ten_pos k))

pub tail : (n k : ℕ) → n % 10 ^ suc k % 10 ^ k ≡ n % 10 ^ k
tail n k = let c = 10 ^ k in
    ap (λ (x : ℕ). n % x % c) (pow-succ' 10 k)
    ∙ ap (λ (x : ℕ). x % c) (mod-mul n {m = 10} {c = c} (omega arith) (ten_pos k))
    ∙ digits_mod (n / c % 10) (mod-lt n (ten_pos k))

-- what stands before the last k + 1 digits
front : (n k : ℕ) → n / 10 ^ suc k ≡ n / 10 ^ k / 10
front n k = ap (λ (x : ℕ). n / x) (pow-suc 10 k) ∙ sym (div-div-eq-div-mul n (10 ^ k) 10)

-- a number that begins with p and then the digit d, and k digits more
pub begun : (n k p d : ℕ) → d < 10 → n / 10 ^ k ≡ p * 10 + d
    → (n / 10 ^ suc k ≡ p) × (n % 10 ^ suc k / 10 ^ k ≡ d)
begun n k p d small e =
    (front n k ∙ omega (arith, e, small), lead n k ∙ omega (arith, e, small))

pub begins_on : (n k p d : ℕ) → n / 10 ^ suc k ≡ p → n % 10 ^ suc k / 10 ^ k ≡ d
    → (d < 10) × (n / 10 ^ k ≡ p * 10 + d)
begins_on n k p d e h = (omega (arith, lead n k, h), omega (arith, lead n k, front n k, e, h))

pub length_writing : (w n : ℕ) → length (writing w n) ≡ w
length_writing zero n = refl
length_writing (suc w) n = ap suc (length_writing w (n % 10 ^ w))

pub under_writing : (w n : ℕ) → n < 10 ^ w → AllBelowBase 10 (writing w n)
under_writing zero n h = tt
under_writing (suc w) n h = (
  div_below n (10 ^ w) 10 (ten_pos w) (omega (arith, pow-succ' 10 w)),
  under_writing w (n % 10 ^ w) (mod-lt n (ten_pos w)),
)

-- a number in front counts by its place
number_after : (a : ℕ) (ds : List ℕ) → number_from_digits_after 10 a ds ≡ a * 10 ^ length ds + number_from_digits 10 ds
number_after a [] = omega arith
number_after a (d ∷ ds) = let c = 10 ^ length ds in
    let power = ap (λ (x : ℕ). a * x) (pow-succ' 10 (length ds)) in
    number_after (a * 10 + d) ds
    ∙ omega (arith, number_after (0 * 10 + d) ds, add-mul (a * 10) d c, mul_assoc a 10 c, power)

number_cons : (d : ℕ) (ds : List ℕ) → number_from_digits 10 (d ∷ ds) ≡ d * 10 ^ length ds + number_from_digits 10 ds
number_cons d ds =
    number_after (0 * 10 + d) ds ∙ ap (λ (x : ℕ). x * 10 ^ length ds + number_from_digits 10 ds) (omega arith)

pub number_writing : (w n : ℕ) → n < 10 ^ w → number_from_digits 10 (writing w n) ≡ n
number_writing zero n h = omega arith
number_writing (suc w) n h = let rest = writing w (n % 10 ^ w) in
    number_cons (n / 10 ^ w) rest
    ∙ ap (λ (x : ℕ). n / 10 ^ w * 10 ^ x + number_from_digits 10 rest) (length_writing w (n % 10 ^ w))
    ∙ ap (λ (x : ℕ). n / 10 ^ w * 10 ^ w + x) (number_writing w (n % 10 ^ w) (mod-lt n (ten_pos w)))
    ∙ div-add-mod' n (10 ^ w)

-- digits are the writing of the number that they read as
writing_number : (ds : List ℕ) → AllBelowBase 10 ds → ds ≡ writing (length ds) (number_from_digits 10 ds)
writing_number [] u = refl
writing_number (d ∷ ds) u = let small = number_lt 10 ds u.1 in
    let n = d * 10 ^ length ds + number_from_digits 10 ds in
    ap (λ (xs : List ℕ). d ∷ xs) (writing_number ds u.1)
    ∙ ap (λ (x : ℕ). x ∷ writing (length ds) (number_from_digits 10 ds)) (sym (digits_div d small))
    ∙ ap (λ (x : ℕ). n / 10 ^ length ds ∷ writing (length ds) x) (sym (digits_mod d small))
    ∙ ap (λ (x : ℕ). writing (suc (length ds)) x) (sym (number_cons d ds))

pub writing_stands_lem : WritingStands
writing_stands_lem w n h = (
  record {
    long = length_writing w n;
    digits = under_writing w n h;
    value = number_writing w n h;
  },
  λ ds is. writing_number ds is.digits
      ∙ ap (λ (x : ℕ). writing x (number_from_digits 10 ds)) is.long
      ∙ ap (λ (x : ℕ). writing w x) is.value,
)
