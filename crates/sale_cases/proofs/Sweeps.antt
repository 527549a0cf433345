-- The live places of a map, computed. Assumes nothing.
use Rattle.std.proofs.Common.{◌≡◌, ℕ, zero, suc, ◌+◌, ◌/◌, ◌%◌, ◌^◌, ◌<◌, ◌≤◌, Bool, true, false, not, ◌&&◌, ◌||◌, eqb, List, [], ◌∷◌, length, get_or, drop, set, replicate, is_some, Option, sym, refl, ap, ◌∙◌, arith, length-drop, length-set}
use native.Mathlib.Nat.{zero-div}
use lib.Bits.{bit_or}
use lib.ListN.{length-replicate}
use Rattle.std.proofs.lemmas.Bool.{both_ways, and_parts}
use Rattle.keypad.specs.declared.key.Symbol.{Symbol}
use Rattle.keypad.specs.Sets.{Same}
use Rattle.digit_map.specs.declared.node.Node.{Node}
use Rattle.map_plan.specs.declared.places.Places.{Places}
use Rattle.map_plan.specs.Members.{holds, Added}
use Rattle.map_plan.specs.Asking.{has_dot, dot_first}
use Rattle.map_plan.specs.Live.{Closed, Rest, passing, remaining}
use Rattle.map_plan.proofs.Members.{bit_set}
use Rattle.map_plan.proofs.Spots.{behind}
use Rattle.map_plan.proofs.Upto.{Upto, upto_none, upto_more}
use Rattle.map_plan.proofs.Reached.{reached_rest, reached_closed}

-- no place, with room for those of a map
abbrev pub none : List Node → Places
none ns = record { words = replicate (length ns / 64 + 1) 0 }

-- the place i too, if wanted
abbrev pub add : Places → ℕ → Bool → Places
add p i true =
    record { words = set p.words (i / 64) (bit_or (get_or p.words (i / 64) 0) (2 ^ (i % 64))) }
add p i false = p

-- the places from i on that are live after a symbol, or before any, put with those before them; carry says
-- that place i is reached by them
abbrev pub sweep : Places → Option Symbol → ℕ → Bool → List Node → Places → Places
sweep live o i carry [] next = next
sweep live o i carry (n ∷ r) next =
    sweep live o (i + 1) ((carry && has_dot n.awaits) || passing live o i n) r
    (add next i (carry || (passing live o i n && has_dot n.awaits)))

abbrev pub live_next : List Node → Places → Option Symbol → Places
live_next ns live o = sweep live o 0 (not (is_some o)) ns (none ns)

zero_at : (n j : ℕ) → get_or {A = ℕ} (replicate n 0) j 0 ≡ 0
zero_at zero j = refl
zero_at (suc n) zero = refl
zero_at (suc n) (suc j) = zero_at n j

none_holds : (ns : List Node) (k : ℕ) → holds (none ns) k ≡ false
none_holds ns k =
    ap (λ x. eqb (x / 2 ^ (k % 64) % 2) 1) (zero_at (length ns / 64 + 1) (k / 64))
    ∙ ap (λ x. eqb (x % 2) 1) (zero-div (2 ^ (k % 64)))

add_adds : (p : Places) (i : ℕ) (b : Bool) → i / 64 < length p.words → Added p i b (add p i b)
add_adds p i true h k = bit_set p.words i k h
add_adds p i false h k = refl

add_length : (p : Places) (i : ℕ) (b : Bool) → length (add p i b).words ≡ length p.words
add_length p i true = length-set p.words (i / 64) _
add_length p i false = refl

module _ (ns : List Node) (live : Places) (o : Option Symbol) where
  -- all places are settled
  abbrev Swept : Places → Type 0
  Swept next = (i : ℕ) × (carry : Bool) × Upto ns live o i next carry × (length ns ≤ i)

  swept : (r : List Node) (i : ℕ) (carry : Bool) (next : Places) → Upto ns live o i next carry →
      drop i ns ≡ r → length next.words ≡ length ns / 64 + 1 → Swept (sweep live o i carry r next)
  swept [] i carry next u e w =
      let l = length-drop i ns in let f : length (drop i ns) ≡ 0 = ap length e in (i, carry, u, omega arith)
  swept (n ∷ r) i carry next u e w =
      let d = length-drop i ns in
      let f : length (drop i ns) ≡ suc (length r) = ap length e in
      let l : i < length ns = omega arith in
      let b = behind ns i n r e in
      let yes = carry || (passing live o i n && has_dot n.awaits) in
      let a = add_adds next i yes (omega arith) in
      swept r (i + 1) _ (add next i yes)
      (upto_more ns live o i next (add next i yes) n carry (passing live o i n) (has_dot n.awaits) u
      (e ∙ ap (λ x. n ∷ x) (sym b)) l refl refl a) b (add_length next i yes ∙ w)

  not_not : (b : Bool) → b ≡ not (not b)
  not_not true = refl
  not_not false = refl

  all_swept : Swept (live_next ns live o)
  all_swept = swept ns 0 (not (is_some o)) (none ns)
      (upto_none ns live o (none ns) (not (is_some o)) (none_holds ns) (not_not (is_some o))) refl
      (length-replicate (length ns / 64 + 1) 0)

  -- the live places leave what remains
  pub next_rest : Closed ns live → Same (Rest ns (live_next ns live o)) (remaining ns live o)
  next_rest c =
      let s = all_swept in reached_rest ns live o s.0 (live_next ns live o) s.1 s.2 s.3 c

  pub next_closed : Closed ns (live_next ns live o)
  next_closed =
      let s = all_swept in reached_closed ns live o s.0 (live_next ns live o) s.1 s.2 s.3

pub none_closed : (ns : List Node) → Closed ns (none ns)
none_closed ns i l e =
    absurd (both_ways _ (none_holds ns i) (and_parts (holds (none ns) i) (dot_first (drop i ns)) e).0)
