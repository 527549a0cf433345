-- The lines of an input by its first line feed. Assumes nothing.
use Rattle.std.proofs.Common.{◌≡◌, ℕ, suc, ◌<◌, false, eqb, List, [], ◌∷◌, ◌++◌, length, sym, refl, subst, arith, ne_eqb, length-append}
use Rattle.map_report.specs.Lines.{lines, in_front, Splits}
use Rattle.map_report.specs.Parts.{Clear, Parts}

-- a byte that is no line feed stands in front of the first line
lines-∷ : (b : ℕ) (bs : List ℕ) → (b ≡ 10 → ⊥) → lines (b ∷ bs) ≡ in_front b (lines bs)
lines-∷ b bs other = let e : eqb b 10 ≡ false = ne_eqb b 10 other in rw e

-- a line feed ends the first line
lines_split : (line rest : List ℕ) → Clear 10 (line ++ 10 ∷ rest) (length line) →
    lines (line ++ 10 ∷ rest) ≡ line ∷ lines rest
lines_split [] rest clear = refl
lines_split (b ∷ line) rest clear =
    let more = lines_split line rest (λ k h. clear (suc k) (omega arith)) in
    rw (lines-∷ b (line ++ 10 ∷ rest) (clear 0 (omega arith)), more)

-- an input that is parted at its first line feed
pub splits_parts : (input line rest : List ℕ) → Parts 10 input line rest → Splits input line rest
splits_parts input line rest p = subst (λ (bs : List ℕ). Splits bs line rest) (sym p.joined) (record {
  split = lines_split line rest (subst (λ (bs : List ℕ). Clear 10 bs (length line)) p.joined p.first);
  shorter = simp length-append (omega arith);
})

-- an input without a line feed is one line
lines_whole : (bs : List ℕ) → Clear 10 bs (length bs) → 0 < length bs → lines bs ≡ bs ∷ []
lines_whole [] clear h = absurd (omega arith)
lines_whole (b ∷ []) clear h = rw (lines-∷ b [] (clear 0 (omega arith)))
lines_whole (b ∷ x ∷ bs) clear h =
    let rest = lines_whole (x ∷ bs) (λ k l. clear (suc k) (omega arith)) (omega arith) in
    rw (lines-∷ b (x ∷ bs) (clear 0 (omega arith)), rest)

-- nothing stands behind an input that is one line
pub splits_whole : (input : List ℕ) → Clear 10 input (length input) → 0 < length input → Splits input input []
splits_whole input clear some = record { split = lines_whole input clear some; shorter = some }
