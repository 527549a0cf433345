-- One place more in a set. Assumes nothing.
use Rattle.std.proofs.Common.{◌≡◌, ℕ, zero, suc, ◌+◌, ◌-◌, ◌*◌, ◌/◌, ◌%◌, ◌^◌, ◌<◌, Bool, true, false, ◌&&◌, ◌||◌, eqb, List, length, get_or, set, sym, refl, ap, ◌∙◌, ⊎_elim, arith, get_or-set_other, get_or-set_same}
use native.Mathlib.Nat.{div-eq_of_lt}
use lib.Bits.{bit_or, or_zero_r, or_shr, or_mod}
use Rattle.std.proofs.lemmas.Nat.{shl-shr, pow-add, pow_below, mod_below}
use Rattle.std.proofs.lemmas.Bool.{cases_eq, cases_order, eq-eqb, ne_eqb}
use Rattle.map_plan.specs.Members.{bit}

power_here : (s : ℕ) → 2 ^ s / 2 ^ s % 2 ≡ 1
power_here s = ap (λ x. x % 2) (ap (λ x. x / 2 ^ s) (omega arith) ∙ shl-shr 1 s)

power_above : (s k : ℕ) → s < k → 2 ^ s / 2 ^ k % 2 ≡ 0
power_above s k h = ap (λ x. x % 2) (div-eq_of_lt (pow_below s k h))

power_below : (s k : ℕ) → k < s → 2 ^ s / 2 ^ k % 2 ≡ 0
power_below s k h =
    let d : ℕ = s - k - 1 in
    let e : s ≡ (d + 1) + k = omega arith in
    let f : 2 ^ s ≡ 2 ^ (d + 1) * 2 ^ k = ap (λ x. 2 ^ x) e ∙ pow-add 2 (d + 1) k in
    let g : 2 ^ s / 2 ^ k ≡ 2 ^ (d + 1) = ap (λ x. x / 2 ^ k) f ∙ shl-shr (2 ^ (d + 1)) k in
    let p : 2 ^ (d + 1) ≡ 2 ^ d * 2 ^ 1 = pow-add 2 d 1 in
    let q : 2 ^ s / 2 ^ k ≡ 2 * 2 ^ d = omega arith in
    ap (λ x. x % 2) q ∙ omega arith

or_at : (w s k : ℕ) → bit_or w (2 ^ s) / 2 ^ k % 2 ≡ bit_or (w / 2 ^ k % 2) (2 ^ s / 2 ^ k % 2)
or_at w s k = ap (λ x. x % 2) (or_shr w (2 ^ s) k) ∙ or_mod (w / 2 ^ k) (2 ^ s / 2 ^ k) 1

or_one : (x : ℕ) → x < 2 → bit_or x 1 ≡ 1
or_one zero h = refl
or_one (suc zero) h = refl
or_one (suc (suc x)) h = absurd (omega arith)

or_same : (w s : ℕ) → bit_or w (2 ^ s) / 2 ^ s % 2 ≡ 1
or_same w s =
    let x = w / 2 ^ s in
    or_at w s s ∙ (ap (bit_or (x % 2)) (power_here s) ∙ or_one (x % 2) (mod_below x 2 (omega arith)))

or_other : (w s k : ℕ) → (k ≡ s → ⊥) → bit_or w (2 ^ s) / 2 ^ k % 2 ≡ w / 2 ^ k % 2
or_other w s k h =
    let none : 2 ^ s / 2 ^ k % 2 ≡ 0 =
    ⊎_elim (λ e. absurd (h e)) (⊎_elim (power_below s k) (power_above s k)) (cases_order k s) in
    or_at w s k ∙ (ap (bit_or (w / 2 ^ k % 2)) none ∙ or_zero_r (w / 2 ^ k % 2))

module _ (ws : List ℕ) (i k : ℕ) (h : i / 64 < length ws) where
  -- the word that has bit i, with that bit set
  abbrev word : ℕ
  word = bit_or (get_or ws (i / 64) 0) (2 ^ (i % 64))

  -- the words with bit i set
  abbrev more : List ℕ
  more = set ws (i / 64) word

  word_at : k / 64 ≡ i / 64 → get_or more (k / 64) 0 ≡ word
  word_at q = rw q (get_or-set_same ws (i / 64) word 0 h)

  bit_here : k / 64 ≡ i / 64 → k % 64 ≡ i % 64 → bit more k ≡ (eqb k i || bit ws k)
  bit_here q r =
      let e : k ≡ i = omega arith in
      ap (λ x. eqb (x / 2 ^ (k % 64) % 2) 1) (word_at q)
      ∙ (ap (λ x. eqb (word / 2 ^ x % 2) 1) r
      ∙ (ap (λ x. eqb x 1) (or_same (get_or ws (i / 64) 0) (i % 64))
      ∙ ap (λ x. x || bit ws k) (sym (eq-eqb k i e))))

  bit_beside : k / 64 ≡ i / 64 → (k % 64 ≡ i % 64 → ⊥) → bit more k ≡ (eqb k i || bit ws k)
  bit_beside q r =
      let e : k ≡ i → ⊥ = λ e. r (ap (λ x. x % 64) e) in
      ap (λ x. eqb (x / 2 ^ (k % 64) % 2) 1) (word_at q)
      ∙ (ap (λ x. eqb x 1) (or_other (get_or ws (i / 64) 0) (i % 64) (k % 64) r)
      ∙ (ap (λ x. eqb (get_or ws x 0 / 2 ^ (k % 64) % 2) 1) (sym q)
      ∙ ap (λ x. x || bit ws k) (sym (ne_eqb k i e))))

  bit_elsewhere : (k / 64 ≡ i / 64 → ⊥) → bit more k ≡ (eqb k i || bit ws k)
  bit_elsewhere q =
      let e : k ≡ i → ⊥ = λ e. q (ap (λ x. x / 64) e) in
      ap (λ x. eqb (x / 2 ^ (k % 64) % 2) 1) (get_or-set_other ws (i / 64) (k / 64) word 0 q)
      ∙ ap (λ x. x || bit ws k) (sym (ne_eqb k i e))

  -- the bits with bit i set
  pub bit_set : bit more k ≡ (eqb k i || bit ws k)
  bit_set =
      ⊎_elim (λ q. ⊎_elim (bit_here q) (bit_beside q) (cases_eq (k % 64) (i % 64))) bit_elsewhere
      (cases_eq (k / 64) (i / 64))

-- a place that is added or not, and the others
pub added_here : (yes old : Bool) (i : ℕ) → ((yes && eqb i i) || old) ≡ (yes || old)
added_here true old i = rw (eq-eqb i i refl) refl
added_here false old i = refl

pub added_other : (yes old : Bool) (k i : ℕ) → (k ≡ i → ⊥) → ((yes && eqb k i) || old) ≡ old
added_other true old k i h = rw (ne_eqb k i h) refl
added_other false old k i h = refl
