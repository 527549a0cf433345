-- What is said from a place that is reached remains after the symbol, or begins the map. Assumes nothing.
use Rattle.std.proofs.Common.{◌≡◌, ℕ, zero, suc, ◌+◌, Bool, true, false, not, ◌&&◌, List, [], ◌∷◌, ◌++◌, length, take, drop, is_some, Some, None, Option, sym, refl, ap, ◌∙◌, subst, ⊎_elim, arith}
use Rattle.std.proofs.lemmas.List.{drop-drop, take-append-drop}
use Rattle.std.proofs.lemmas.Bool.{both_ways, and_parts, or_cases}
use Rattle.keypad.specs.declared.key.Symbol.{Symbol}
use Rattle.keypad.specs.declared.key.Mark.{Mark}
use Rattle.keypad.specs.Entries.{Entry, step, prepend}
use Rattle.digit_map.specs.declared.node.Position.{Position}
use Rattle.digit_map.specs.declared.node.Node.{Node}
use Rattle.digit_map.specs.Nodes.{awaiting}
use Rattle.digit_map.specs.Meaning.{Takes, Says, takes, repeats, skips, is_end, whole_alternatives}
use Rattle.map_plan.specs.declared.places.Places.{Places}
use Rattle.map_plan.specs.Members.{holds}
use Rattle.map_plan.specs.Asking as ask
use Rattle.map_plan.specs.Asking.{accepts_at, answered, has_dot, dot_first}
use Rattle.map_plan.specs.Live.{remaining}
use Rattle.map_plan.proofs.Symbols.{accepts_sound}
use Rattle.map_plan.proofs.Spots.{node}
use Rattle.map_plan.proofs.Upto.{passing_first, passed, carried, reached}

one_more : (k : ℕ) (ns : List Node) → drop (suc k) ns ≡ drop 1 (drop k ns)
one_more k ns = let e : suc k ≡ k + 1 = omega arith in ap (λ x. drop x ns) e ∙ sym (drop-drop 1 k ns)

-- a position with a dot is skipped
skip_at : (o : Option Position) (m : Mark) (h : Bool) (r : List Node) {e : Entry} → has_dot o ≡ true →
    Says r e → Says (node o m h ∷ r) e
skip_at (Some p) m h r d x = skips p m h d x
skip_at None m h r d x = absurd (both_ways false refl d)

skip_first : (xs : List Node) {e : Entry} → dot_first xs ≡ true → Says (drop 1 xs) e → Says xs e
skip_first [] d x = absurd (both_ways false refl d)
skip_first (n ∷ r) d x = skip_at n.awaits n.mark n.marked r d x

-- a symbol that the first place takes, before what is said behind it
step_position : (p : Position) (m : Mark) (h : Bool) (r : List Node) {e : Entry} {s : Symbol} → Takes p s →
    (b : Bool) → p.dotted ≡ b → Says r e → Says (awaiting p m h ∷ r) (prepend (step s m) e)
step_position p m h r k true d x = repeats p m h d k (skips p m h d x)
step_position p m h r k false d x = takes p m h d k x

step_at : (o : Option Position) (m : Mark) (h : Bool) (r : List Node) {e : Entry} (s : Symbol) →
    accepts_at s o ≡ true → Says r e → Says (node o m h ∷ r) (prepend (step s m) e)
step_at (Some p) m h r s a x = step_position p m h r (accepts_sound p s a) p.dotted refl x
step_at None m h r s a x = absurd (both_ways false refl a)

step_first : (xs : List Node) {e : Entry} (s : Symbol) → answered (ask.takes_symbol s) xs ≡ true →
    Says (drop 1 xs) e → (m : Mark) × Says xs (prepend (step s m) e)
step_first [] s a x = absurd (both_ways false refl a)
step_first (n ∷ r) s a x = (n.mark, step_at n.awaits n.mark n.marked r s a x)

-- a symbol that the first place takes, before what is said from it on
stay_at : (o : Option Position) (m : Mark) (h : Bool) (r : List Node) {e : Entry} (s : Symbol) →
    accepts_at s o ≡ true → has_dot o ≡ true → Says (node o m h ∷ r) e →
    Says (node o m h ∷ r) (prepend (step s m) e)
stay_at (Some p) m h r s a d x = repeats p m h d (accepts_sound p s a) x
stay_at None m h r s a d x = absurd (both_ways false refl a)

stay_first : (xs : List Node) {e : Entry} (s : Symbol) → answered (ask.takes_symbol s) xs ≡ true →
    dot_first xs ≡ true → Says xs e → (m : Mark) × Says xs (prepend (step s m) e)
stay_first [] s a d x = absurd (both_ways false refl a)
stay_first (n ∷ r) s a d x = (n.mark, stay_at n.awaits n.mark n.marked r s a d x)

-- behind an end an alternative begins
whole_take : (ns : List Node) (k : ℕ) → answered ask.ends (drop k ns) ≡ true →
    whole_alternatives (take (suc k) ns) ≡ true
whole_take [] zero e = absurd (both_ways false refl e)
whole_take [] (suc k) e = absurd (both_ways false refl e)
whole_take (n ∷ ns) zero e = e
whole_take (n ∷ []) (suc zero) e = absurd (both_ways false refl e)
whole_take (n ∷ []) (suc (suc k)) e = absurd (both_ways false refl e)
whole_take (n ∷ m ∷ ns) (suc k) e = whole_take (m ∷ ns) k e

pub last_end : (n : Node) (front back : List Node) → whole_alternatives (n ∷ front) ≡ true →
    answered ask.ends (drop (length front) ((n ∷ front) ++ back)) ≡ true
last_end n [] back e = e
last_end n (m ∷ front) back e = last_end m front back e

end_no_dot : (o : Option Position) → is_end o ≡ true → has_dot o ≡ true → ⊥
end_no_dot (Some p) e d = both_ways false refl e
end_no_dot None e d = both_ways false refl d

ends_no_dot : (xs : List Node) → answered ask.ends xs ≡ true → dot_first xs ≡ true → ⊥
ends_no_dot [] e d = both_ways false refl e
ends_no_dot (n ∷ r) e d = end_no_dot n.awaits e d

passing_takes : (live : Places) (s : Symbol) (i : ℕ) (xs : List Node) →
    passing_first live (Some s) i xs ≡ true →
    (holds live i ≡ true) × (answered (ask.takes_symbol s) xs ≡ true)
passing_takes live s i [] e = absurd (both_ways false refl e)
passing_takes live s i (n ∷ r) e = and_parts (holds live i) (answered (ask.takes_symbol s) (n ∷ r)) e

pub passing_ends : (live : Places) (i : ℕ) (xs : List Node) →
    passing_first live None i xs ≡ answered ask.ends xs
passing_ends live i [] = refl
passing_ends live i (n ∷ r) = refl

module _ (ns : List Node) (live : Places) where
  -- what is said behind a place that is passed
  passed_on : (o : Option Symbol) (k : ℕ) {e : Entry} → passed ns live o k ≡ true → Says (drop (suc k) ns) e →
      remaining ns live o e
  passed_on (Some s) k {e = e} h x =
      let a = passing_takes live s k (drop k ns) h in
      let y = step_first (drop k ns) s a.1 (subst (λ xs. Says xs e) (one_more k ns) x) in
      (y.0, (k, a.0, y.1))
  passed_on None k h x =
      record {
        front = take (suc k) ns;
        back = drop (suc k) ns;
        is = sym (take-append-drop (suc k) ns);
        begins = whole_take ns k (sym (passing_ends live k (drop k ns)) ∙ h);
        says = x;
      }

  passed_stay : (o : Option Symbol) (k : ℕ) {e : Entry} → passed ns live o k ≡ true →
      dot_first (drop k ns) ≡ true → Says (drop k ns) e → remaining ns live o e
  passed_stay (Some s) k h d x =
      let a = passing_takes live s k (drop k ns) h in
      let y = stay_first (drop k ns) s a.1 d x in (y.0, (k, a.0, y.1))
  passed_stay None k h d x =
      absurd (ends_no_dot (drop k ns) (sym (passing_ends live k (drop k ns)) ∙ h) d)

  begun : (o : Option Symbol) {e : Entry} → not (is_some o) ≡ true → Says ns e → remaining ns live o e
  begun (Some s) h x = absurd (both_ways false refl h)
  begun None h x = record { front = []; back = ns; is = refl; begins = refl; says = x }

  carried_sound : (o : Option Symbol) (k : ℕ) {e : Entry} → carried ns live o k ≡ true → Says (drop k ns) e →
      remaining ns live o e
  carried_sound o zero h x = begun o h x
  carried_sound o (suc k) {e = e} h x =
      ⊎_elim
      (λ a. let b = and_parts (carried ns live o k) (dot_first (drop k ns)) a in
      carried_sound o k b.0 (skip_first (drop k ns) b.1 (subst (λ xs. Says xs e) (one_more k ns) x)))
      (λ a. passed_on o k a x)
      (or_cases (carried ns live o k && dot_first (drop k ns)) (passed ns live o k) h)

  pub reached_sound : (o : Option Symbol) (k : ℕ) {e : Entry} → reached ns live o k ≡ true →
      Says (drop k ns) e → remaining ns live o e
  reached_sound o k h x =
      ⊎_elim (λ a. carried_sound o k a x)
      (λ a. let b = and_parts (passed ns live o k) (dot_first (drop k ns)) a in
      passed_stay o k b.0 b.1 x)
      (or_cases (carried ns live o k) (passed ns live o k && dot_first (drop k ns)) h)
