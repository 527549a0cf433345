-- Things that are told one behind another, each by a turn of a loop. Assumes nothing.
use Rattle.std.proofs.Common.{◌≡◌, ℕ, ◌+◌, ◌<◌, ◌≤◌, Bool, true, false, cond, List, [], ◌∷◌, ◌++◌, map, length, get_or, drop, sym, refl, ap, ◌∙◌, arith}
use Rattle.std.proofs.lemmas.List.{append_assoc, append-nil, drop_more, drop_all, length-append}
use Rattle.keypad.specs.declared.key.Symbol.{Symbol}
use Rattle.key_record.specs.Dials.{chars, fresh}
use Rattle.key_record.proofs.Letters.{dial_length}
use Rattle.key_record.specs.Letters.{report_line}
use Rattle.line_parts.specs.declared.report.Report.{Report}
use Rattle.line_parts.specs.Dialled.{dialled}
use Rattle.play_report.specs.Words.{told_all, open_line}

-- what is added in parts is added as one
pub joined-++ : (t xs ys : List ℕ) {u v : List ℕ} → u ≡ t ++ xs → v ≡ u ++ ys → v ≡ t ++ (xs ++ ys)
joined-++ t xs ys p q = q ∙ (ap (λ (l : List ℕ). l ++ ys) p ∙ append_assoc t xs ys)

-- a blank at most
lead_length : (f : Bool) → length {A = ℕ} (cond f [] (32 ∷ [])) ≤ 1
lead_length true = omega arith
lead_length false = omega arith

pub open_length : (d : List Symbol) → chars d ≤ 64 → length (open_line d) ≤ 85
open_length d h =
    let n = dial_length d in
    let m = lead_length (fresh d) in
    simp length-append (omega arith)

-- the line of a report
abbrev pub report_told : Report → List ℕ
report_told r = report_line (dialled r.dial) r.ending

-- things told by what they are shown as
pub told_map : {X Y : Type 0} (f : Y → List ℕ) (g : X → Y) (xs : List X) →
    told_all f (map g xs) ≡ told_all (λ x. f (g x)) xs
told_map f g [] = refl
told_map f g (x ∷ xs) = ap (λ (w : List ℕ). f (g x) ++ w) (told_map f g xs)

module _ {X : Type 0} (f : X → List ℕ) (all : List X) (start : List ℕ) where
  -- behind start, out tells all but those from place i on
  abbrev pub Upto : List ℕ → ℕ → Type 0
  Upto out i = out ++ told_all f (drop i all) ≡ start ++ told_all f all

  -- one more is told
  pub upto_more : (out grown : List ℕ) (i : ℕ) (d : X) → i < length all → Upto out i →
      grown ≡ out ++ f (get_or all i d) → Upto grown (i + 1)
  upto_more out grown i d h p g =
      let x : List ℕ = f (get_or all i d) in
      let rest : List ℕ = told_all f (drop (i + 1) all) in
      ap (λ (w : List ℕ). w ++ rest) g ∙ (append_assoc out x rest
      ∙ (ap (λ (w : List X). out ++ told_all f w) (sym (drop_more all i d h)) ∙ p))

  -- none is left
  pub upto_all : (out : List ℕ) (i : ℕ) → length all ≤ i → Upto out i → out ≡ start ++ told_all f all
  upto_all out i h p =
      sym (append-nil out) ∙ (ap (λ (w : List X). out ++ told_all f w) (sym (drop_all i all h)) ∙ p)
