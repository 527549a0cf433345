-- The places of a map, by their index. Assumes nothing.
use Rattle.std.proofs.Common.{◌≡◌, ℕ, zero, suc, ◌&&◌, subst, zero-add, add-zero, ◌+◌, ◌<◌, Bool, true, false, List, [], ◌∷◌, length, get_or, drop, Option, sym, refl, ap, ◌∙◌, ⊎_elim, arith}
use Rattle.std.specs.List.{list_any, enumerate_from}
use Rattle.std.proofs.lemmas.List.{drop-drop, drop_all, drop_more}
use Rattle.std.proofs.lemmas.Bool.{both_ways, cases_lt, and_parts, and_from, or_cases, or_left, or_right}
use Rattle.keypad.specs.declared.key.Mark.{Mark}
use Rattle.keypad.specs.Entries.{Entry}
use Rattle.keypad.specs.Answers.{Tells}
use Rattle.digit_map.specs.declared.node.Position.{Position}
use Rattle.digit_map.specs.declared.node.Node.{Node}
use Rattle.digit_map.specs.Meaning.{Says, closes, takes, repeats, skips}
use Rattle.map_plan.specs.declared.places.Places.{Places}
use Rattle.map_plan.specs.Members.{holds}
use Rattle.map_plan.specs.Asking.{answered}
use Rattle.map_plan.specs.Live.{SomeLive}

-- the place of a node, given by its fields
abbrev pub node : Option Position → Mark → Bool → Node
node o m h = record { awaits = o; mark = m; marked = h }

-- nothing is said where no place is left
says_filled : {xs : List Node} {e : Entry} → Says xs e → xs ≡ [] → ⊥
says_filled (closes m h ns) q = let z : ◌≡◌ {A = ℕ} 0 1 = cc in omega arith
says_filled (takes p m h d t x) q = let z : ◌≡◌ {A = ℕ} 0 1 = cc in omega arith
says_filled (repeats p m h d t x) q = let z : ◌≡◌ {A = ℕ} 0 1 = cc in omega arith
says_filled (skips p m h d x) q = let z : ◌≡◌ {A = ℕ} 0 1 = cc in omega arith

pub says_inside : (ns : List Node) (i : ℕ) {e : Entry} → Says (drop i ns) e → i < length ns
says_inside ns i x =
    ⊎_elim (λ l. l) (λ l. absurd (says_filled x (drop_all i ns l))) (cases_lt i (length ns))

pub behind : (ns : List Node) (i : ℕ) (n : Node) (r : List Node) → drop i ns ≡ n ∷ r → drop (i + 1) ns ≡ r
behind ns i n r e = sym (drop-drop 1 i ns) ∙ ap (drop 1) e

-- a node that was read
pub read_at : (xs ns : List Node) (i : ℕ) (n : Node) → xs ≡ ns → i < length xs →
    drop i ns ≡ get_or xs i n ∷ drop (i + 1) ns
read_at xs ns i n e l = subst (λ ys. drop i ys ≡ get_or xs i n ∷ drop (i + 1) ys) e (drop_more xs i n l)

-- a place that answers is one of the map's
pub answered_inside : (ns : List Node) (q : Node → Bool) (i : ℕ) → answered q (drop i ns) ≡ true →
    i < length ns
answered_inside ns q i a =
    ⊎_elim (λ l. l) (λ l. absurd (both_ways false refl (sym (ap (answered q) (drop_all i ns l)) ∙ a)))
    (cases_lt i (length ns))

module _ (live : Places) (p : Node → Bool) where
  -- whether some place is live and passes, counted from k on
  abbrev pub live_from : ℕ → List Node → Bool
  live_from k ns = list_any (λ (x : ℕ × Node). holds live x.0 && p x.1) (enumerate_from k ns)

  found_from : (k : ℕ) (ns : List Node) → live_from k ns ≡ true →
      (i : ℕ) × (holds live (k + i) ≡ true) × (answered p (drop i ns) ≡ true)
  found_from k [] e = absurd (both_ways false refl e)
  found_from k (n ∷ ns) e =
      ⊎_elim (λ h. let a = and_parts (holds live k) (p n) h in (0, rw add-zero a.0, a.1))
      (λ h. let x = found_from (k + 1) ns h in
      let y : k + 1 + x.0 ≡ k + suc x.0 = omega arith in
      (suc x.0, subst (λ j. holds live j ≡ true) y x.1, x.2))
      (or_cases (holds live k && p n) (live_from (k + 1) ns) e)

  finds_from : (k i : ℕ) (ns : List Node) → holds live (k + i) ≡ true → answered p (drop i ns) ≡ true →
      live_from k ns ≡ true
  finds_from k i [] v a = absurd (omega (arith, answered_inside [] p i a))
  finds_from k zero (n ∷ ns) v a =
      or_left (holds live k && p n) (live_from (k + 1) ns)
      (and_from (holds live k) (p n) (rw add-zero at v) a)
  finds_from k (suc i) (n ∷ ns) v a =
      let y : k + suc i ≡ k + 1 + i = omega arith in
      or_right (holds live k && p n) (live_from (k + 1) ns)
      (finds_from (k + 1) i ns (subst (λ j. holds live j ≡ true) y v) a)

  pub tells_from : (ns : List Node) (r : Bool) → r ≡ live_from 0 ns → Tells (SomeLive ns live p) r
  tells_from ns true e =
      let x = found_from 0 ns (sym e) in ∣ (x.0, subst (λ i. holds live i ≡ true) (zero-add x.0) x.1, x.2) ∣₁
  tells_from ns false e =
      λ x. both_ways false refl
      (e ∙ finds_from 0 x.0 ns (subst (λ i. holds live i ≡ true) (sym (zero-add x.0)) x.1) x.2)
