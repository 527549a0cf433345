-- Lists that are cut, cut again and joined. Assumes nothing.
use Rattle.std.proofs.Common.{◌≡◌, ℕ, zero, suc, ◌+◌, ◌-◌, ◌≤◌, min, List, [], ◌∷◌, ◌++◌, length, take, drop, sym, refl, ap, ◌∙◌, inl, inr, arith}
use Rattle.std.proofs.lemmas.List.{take-append-le, length-drop, drop-take, drop_all}
use Rattle.std.proofs.lemmas.Bool.{cases_lt}

-- what is cut off a front is cut off the whole
pub take_cut : {A : Type 0} (n : ℕ) (xs ys : List A) → take n (take n xs ++ ys) ≡ take n (xs ++ ys)
take_cut zero xs ys = refl
take_cut (suc n) [] ys = refl
take_cut (suc n) (x ∷ xs) ys = ap (λ l. x ∷ l) (take_cut n xs ys)

-- the first so many of a list whose front has moved behind it
pub take_rotated : {A : Type 0} (n m : ℕ) (xs : List A) → n ≤ m → m ≤ length xs →
    take (m - n) (drop n xs ++ take n xs) ≡ drop n (take m xs)
take_rotated n m xs h k =
    let l = length-drop n xs in
    let e : n + (m - n) ≡ m = omega arith in
    take-append-le (m - n) (drop n xs) (take n xs) (omega arith)
    ∙ (sym (drop-take n (m - n) xs) ∙ ap (λ i. drop n (take i xs)) e)

-- to drop more than there is drops all
pub drop_least : {A : Type 0} (n : ℕ) (xs : List A) → drop (min n (length xs)) xs ≡ drop n xs
drop_least n xs = elim (cases_lt n (length xs)) [
  | inl h ↦ let e : min n (length xs) ≡ n = omega arith in ap (λ i. drop i xs) e
  | inr h ↦ drop_all _ xs (omega arith) ∙ sym (drop_all n xs h)
]
