-- The places that are reached leave what remains after a symbol, or before any. Assumes nothing.
use Rattle.std.proofs.Common.{◌≡◌, ℕ, suc, ◌+◌, ◌<◌, ◌≤◌, Bool, true, ◌&&◌, List, [], ◌∷◌, ◌++◌, length, drop, Some, None, Option, sym, refl, ap, ◌∙◌, subst, ⊎_elim, add-one, arith}
use Rattle.std.proofs.lemmas.List.{drop_at}
use Rattle.std.proofs.lemmas.Bool.{and_parts, and_from, or_cases, or_left, or_right}
use Rattle.keypad.specs.declared.key.Symbol.{Symbol}
use Rattle.keypad.specs.declared.key.Mark.{Mark}
use Rattle.keypad.specs.Entries.{Entry, step, prepend}
use Rattle.keypad.specs.Sets.{Same}
use Rattle.digit_map.specs.declared.node.Position.{Position}
use Rattle.digit_map.specs.declared.node.Node.{Node}
use Rattle.digit_map.specs.Nodes.{awaiting}
use Rattle.digit_map.specs.Meaning.{Takes, Says, closes, takes, repeats, skips, whole_alternatives}
use Rattle.map_plan.specs.declared.places.Places.{Places}
use Rattle.map_plan.specs.Members.{holds}
use Rattle.map_plan.specs.Asking as ask
use Rattle.map_plan.specs.Asking.{accepts_at, answered, dot_first}
use Rattle.map_plan.specs.Live.{Closed, Rest, remaining}
use Rattle.map_plan.proofs.Symbols.{accepts_complete}
use Rattle.map_plan.proofs.Spots.{says_inside, behind}
use Rattle.map_plan.proofs.Steps.{same_symbol, same_behind, never_ended}
use Rattle.map_plan.proofs.Upto.{passing_first, passed, carried, reached, Upto}
use Rattle.map_plan.proofs.Passed.{passing_ends, reached_sound, last_end}

module _ (ns : List Node) (live : Places) where
  -- a place that is passed is reached behind it
  passed_reached : (o : Option Symbol) (k : ℕ) → passed ns live o k ≡ true → reached ns live o (suc k) ≡ true
  passed_reached o k h =
      or_left (carried ns live o (suc k)) (passed ns live o (suc k) && dot_first (drop (suc k) ns))
      (or_right (carried ns live o k && dot_first (drop k ns)) (passed ns live o k) h)

  -- a place that is reached, and from which the entry is said
  abbrev Reaches : Option Symbol → Entry → Type 0
  Reaches o e = (k : ℕ) × (reached ns live o k ≡ true) × Says (drop k ns) e

  begins_reached : (front back : List Node) {e : Entry} → ns ≡ front ++ back →
      whole_alternatives front ≡ true → Says back e → Reaches None e
  begins_reached [] back {e = e} q w x = (0, refl, subst (λ xs. Says xs e) (sym q) x)
  begins_reached (n ∷ front) back {e = e} q w x =
      let k = length front in
      let a = ap (λ xs. answered ask.ends (drop k xs)) q ∙ last_end n front back w in
      let y = ap (drop (suc k)) q ∙ drop_at (n ∷ front) back (suc k) refl in
      (suc k, passed_reached None k (passing_ends live k (drop k ns) ∙ a), subst (λ xs. Says xs e) (sym y) x)

  taken : (s : Symbol) (i : ℕ) (p : Position) (m : Mark) (h : Bool) (r : List Node) →
      drop i ns ≡ awaiting p m h ∷ r → holds live i ≡ true → Takes p s → passed ns live (Some s) i ≡ true
  taken s i p m h r q v t =
      ap (passing_first live (Some s) i) q
      ∙ and_from (holds live i) (accepts_at s (Some p)) v (accepts_complete p t)

  module _ (c : Closed ns live) (s : Symbol) (n : Mark) (e : Entry) where
    step_reached : (i : ℕ) {xs : List Node} {x : Entry} → Says xs x → x ≡ prepend (step s n) e →
        drop i ns ≡ xs → holds live i ≡ true → Reaches (Some s) e
    step_reached i (closes m h r) w q v = absurd (never_ended m h (step s n) e w)
    step_reached i (takes p m h {ns = r} {e = f} {s = t} d k x) w q v =
        let a = taken s i p m h r q v (subst (Takes p) (same_symbol t s m n f e w) k) in
        let b = behind ns i (awaiting p m h) r q in
        let y : Says (drop (i + 1) ns) e = rw b (subst (Says r) (same_behind t s m n f e w) x) in
        (suc i, passed_reached (Some s) i a, rw add-one at y)
    step_reached i (repeats p m h {ns = r} {e = f} {s = t} d k x) w q v =
        let a = taken s i p m h r q v (subst (Takes p) (same_symbol t s m n f e w) k) in
        let y : Says (drop i ns) e = rw q (subst (Says (awaiting p m h ∷ r)) (same_behind t s m n f e w) x) in
        let z : (passed ns live (Some s) i && dot_first (drop i ns)) ≡ true =
        and_from (passed ns live (Some s) i) (dot_first (drop i ns)) a (ap dot_first q ∙ d) in
        (i, or_right (carried ns live (Some s) i) (passed ns live (Some s) i && dot_first (drop i ns)) z, y)
    step_reached i (skips p m h {ns = r} {e = f} d x) w q v =
        let b = behind ns i (awaiting p m h) r q in
        let y : Says (drop (i + 1) ns) f = rw b x in
        let a = and_from (holds live i) (dot_first (drop i ns)) v (ap dot_first q ∙ d) in
        step_reached (i + 1) x w b (c i (says_inside ns (i + 1) y) a)

  remaining_reached : Closed ns live → (o : Option Symbol) (e : Entry) → remaining ns live o e → Reaches o e
  remaining_reached c (Some s) e x = step_reached c s x.0 e x.1.0 x.1.2 refl refl x.1.1
  remaining_reached c None e x = begins_reached x.front x.back x.is x.begins x.says

  module _ (o : Option Symbol) (i : ℕ) (next : Places) (carry : Bool) (so_far : Upto ns live o i next carry)
      (l : length ns ≤ i) where
    settled : (k : ℕ) → k < length ns → holds next k ≡ reached ns live o k
    settled k h = so_far.before k (omega arith)

    pub reached_rest : Closed ns live → Same (Rest ns next) (remaining ns live o)
    reached_rest c e = (
      λ x. let l = says_inside ns x.0 x.2 in
          reached_sound ns live o x.0 (sym (settled x.0 l) ∙ x.1) x.2,
      λ x. let y = remaining_reached c o e x in let l = says_inside ns y.0 y.2 in
          (y.0, settled y.0 l ∙ y.1, y.2),
    )

    carried_on : (k : ℕ) → reached ns live o k ≡ true → dot_first (drop k ns) ≡ true →
        carried ns live o (suc k) ≡ true
    carried_on k h d =
        ⊎_elim
        (λ a. or_left (carried ns live o k && dot_first (drop k ns)) (passed ns live o k)
        (and_from (carried ns live o k) (dot_first (drop k ns)) a d))
        (λ a. or_right (carried ns live o k && dot_first (drop k ns)) (passed ns live o k)
        (and_parts (passed ns live o k) (dot_first (drop k ns)) a).0)
        (or_cases (carried ns live o k) (passed ns live o k && dot_first (drop k ns)) h)

    pub reached_closed : Closed ns next
    reached_closed k h a =
        let b = and_parts (holds next k) (dot_first (drop k ns)) a in
        let x = carried_on k (sym (settled k (omega arith)) ∙ b.0) b.1 in
        let stays = passed ns live o (suc k) && dot_first (drop (suc k) ns) in
        let y = or_left (carried ns live o (suc k)) stays x in
        settled (k + 1) h ∙ rw add-one y
