-- Lines that end a sale, and the sales that they end. Assumes nothing.
use Rattle.std.proofs.Common.{◌≡◌, ℕ, ◌+◌, ◌<◌, ◌≤◌, List, [], ◌++◌, length, take, drop, Some, None, Option, sym, ap, ◌∙◌, subst, append_assoc, arith, length-append, length-drop, MatchOption}
use Rattle.std.proofs.lemmas.List.{append-nil, drop-drop, length-take-le}
use Rattle.sale.specs.Sales.{Sold}
use Rattle.sale_runs.specs.Runs.{mark, Marked, Unmarked, First, Parts, Runs, ended, sold}

-- the first line that ends a sale, of all that there are
pub first_marked : (bs : List ℕ) (r : Option ℕ) →
    MatchOption r ((k : ℕ) → 0 ≤ k → k < length bs → (rest : List ℕ) → Marked bs k rest → ⊥)
    (λ n. (0 ≤ n) × (n < length bs) × ((rest : List ℕ) × Marked bs n rest)
    × ((k : ℕ) → 0 ≤ k → k < n → (rest : List ℕ) → Marked bs k rest → ⊥)) →
    MatchOption r (Unmarked bs (length bs)) (First bs)
first_marked bs None none = λ k rest below m. none k (omega arith) below rest m
first_marked bs (Some n) (low, inside, (rest, m), none) =
    let back : length (drop n bs) ≡ length (mark ++ rest) = ap length m.1 in
    record {
      fits = omega (arith, length-drop n bs, length-append mark rest);
      here = (rest, m);
      first = λ k rest below m. none k (omega arith) below rest m;
    }

-- an input is parted at the first line that ends a sale
pub parts_first : (bs : List ℕ) (n : ℕ) → First bs n → Parts bs (take n bs) (drop (n + 5) bs)
parts_first bs n f =
    let front = length-take-le n bs (omega arith) in
    let behind : drop (n + 5) bs ≡ f.here.0 = sym (drop-drop 5 n bs) ∙ ap (drop 5) f.here.1.1 in
    record {
      before = ap (λ k. take k bs) (sym front);
      here = subst (λ k. Marked bs k (drop (n + 5) bs)) (sym front) (subst (Marked bs n) (sym behind) f.here.1);
      first = subst (λ k. Unmarked bs k) (sym front) f.first;
    }

-- what stands behind a sale is shorter than the input
pub parts_shorter : (bs one rest : List ℕ) → Parts bs one rest → length rest < length bs
parts_shorter bs one rest p =
    let back : length (drop (length one) bs) ≡ length (mark ++ rest) = ap length p.here.1 in
    omega (arith, length-drop (length one) bs, length-append mark rest)

module _ (input bs out : List ℕ) (run : (more : List ℕ) → Runs bs more → Runs input (out ++ more)) where
  -- one sale more has printed its lines
  pub run_more : (one rest printed : List ℕ) → Parts bs one rest → Sold one printed → (more : List ℕ) →
      Runs rest more → Runs input (((out ++ printed) ++ mark) ++ more)
  run_more one rest printed p s more r =
      subst (Runs input)
      (sym (append_assoc (out ++ printed) mark more ∙ append_assoc out printed (mark ++ more)))
      (run (printed ++ (mark ++ more)) (sold bs one rest printed more p s r))

  -- no sale is left
  pub run_over : Unmarked bs (length bs) → Runs input out
  run_over none = subst (Runs input) (append-nil out) (run [] (ended bs none))
