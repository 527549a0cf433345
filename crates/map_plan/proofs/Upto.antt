-- The places that are reached, settled one behind another. Assumes nothing.
use Rattle.std.proofs.Common.{◌≡◌, ℕ, zero, suc, ◌+◌, ◌<◌, ◌≤◌, Bool, true, false, not, ◌&&◌, ◌||◌, eqb, List, [], ◌∷◌, length, drop, is_some, Option, sym, refl, ap, ◌∙◌, ⊎_elim, add-one, arith}
use Rattle.std.proofs.lemmas.Bool.{cases_eq}
use Rattle.keypad.specs.declared.key.Symbol.{Symbol}
use Rattle.digit_map.specs.declared.node.Node.{Node}
use Rattle.map_plan.specs.declared.places.Places.{Places}
use Rattle.map_plan.specs.Members.{holds, Added}
use Rattle.map_plan.specs.Asking.{has_dot, dot_first}
use Rattle.map_plan.specs.Live.{passing}
use Rattle.map_plan.proofs.Members.{added_here, added_other}

-- the first of the places, which has the index i, is passed
abbrev pub passing_first : Places → Option Symbol → ℕ → List Node → Bool
passing_first live o i [] = false
passing_first live o i (n ∷ r) = passing live o i n

or_false : (b : Bool) → (b || false) ≡ b
or_false true = refl
or_false false = refl

-- a place that is wanted and added
pub added_if : (next : Places) (i : ℕ) (wanted : Bool) (last : Places) → wanted ≡ true → Added next i true last →
    Added next i wanted last
added_if next i wanted last e h = rw e h

-- one that is not wanted, and nothing is changed
pub added_not : (next : Places) (i : ℕ) (wanted : Bool) (last : Places) → wanted ≡ false → last ≡ next →
    Added next i wanted last
added_not next i wanted last e f = rw (e, f) (λ k. refl)

module _ (ns : List Node) (live : Places) where
  abbrev pub passed : Option Symbol → ℕ → Bool
  passed o k = passing_first live o k (drop k ns)

  -- the place is reached by what stands before it
  abbrev pub carried : Option Symbol → ℕ → Bool
  carried o zero = not (is_some o)
  carried o (suc k) = (carried o k && dot_first (drop k ns)) || passed o k

  -- the place is reached
  abbrev pub reached : Option Symbol → ℕ → Bool
  reached o k = carried o k || (passed o k && dot_first (drop k ns))

  -- the places before i are settled, and carry says whether place i is reached by them
  pub record Upto (o : Option Symbol) (i : ℕ) (next : Places) (carry : Bool) : Type 0 where
    pub inside : i ≤ length ns
    pub before : (k : ℕ) → k < i → holds next k ≡ reached o k
    pub beyond : (k : ℕ) → i ≤ k → holds next k ≡ false
    pub here : carry ≡ carried o i

  pub upto_none : (o : Option Symbol) (next : Places) (carry : Bool) → ((k : ℕ) → holds next k ≡ false) →
      is_some o ≡ not carry → Upto o 0 next carry
  upto_none o next carry e f =
      record {
        inside = omega arith;
        before = λ k h. absurd (omega arith);
        beyond = λ k h. e k;
        here = first carry (is_some o) f;
      }
    where
      first : (b s : Bool) → s ≡ not b → b ≡ not s
      first true s f = rw f refl
      first false s f = rw f refl

  module _ (o : Option Symbol) (i : ℕ) (next last : Places) (n : Node) (carry passes dots : Bool)
      (so_far : Upto o i next carry) (at : drop i ns ≡ n ∷ drop (i + 1) ns) (l : i < length ns)
      (p : passes ≡ passing live o i n) (d : dots ≡ has_dot n.awaits)
      (add : (k : ℕ) → holds last k ≡ (((carry || (passes && dots)) && eqb k i) || holds next k)) where
    dots_at : dots ≡ dot_first (drop i ns)
    dots_at = d ∙ sym (ap dot_first at)

    passes_at : passes ≡ passed o i
    passes_at = p ∙ sym (ap (passing_first live o i) at)

    added_at : holds last i ≡ reached o i
    added_at =
        add i
        ∙ (added_here (carry || (passes && dots)) (holds next i) i
        ∙ (ap (λ b. (carry || (passes && dots)) || b) (so_far.beyond i (omega arith))
        ∙ (or_false (carry || (passes && dots)) ∙ rw (so_far.here, passes_at, dots_at) refl)))

    kept_at : (k : ℕ) → (k ≡ i → ⊥) → holds last k ≡ holds next k
    kept_at k h = add k ∙ added_other (carry || (passes && dots)) (holds next k) k i h

    pub upto_more : Upto o (i + 1) last ((carry && dots) || passes)
    upto_more =
        record {
          inside = omega arith;
          before = λ k h.
              ⊎_elim (λ e. rw e added_at) (λ e. kept_at k e ∙ so_far.before k (omega arith)) (cases_eq k i);
          beyond = λ k h. kept_at k (omega arith) ∙ so_far.beyond k (omega arith);
          here = rw (add-one, so_far.here, passes_at, dots_at) refl;
        }
