-- From an entry to the live place where its first step or its end is awaited. Assumes nothing.
use Rattle.std.proofs.Common.{◌≡◌, ℕ, ◌+◌, Bool, true, false, not, List, ◌∷◌, drop, sym, refl, ap, subst, inl, inr}
use Rattle.std.proofs.lemmas.Bool.{and_from}
use Rattle.keypad.specs.declared.key.Symbol.{Symbol}
use Rattle.keypad.specs.declared.key.Mark.{Mark}
use Rattle.keypad.specs.Entries.{Step, Entry, step, ended, prepend}
use Rattle.keypad.specs.Sets as sets
use Rattle.digit_map.specs.declared.node.Position.{Position}
use Rattle.digit_map.specs.declared.node.Node.{Node}
use Rattle.digit_map.specs.Nodes.{awaiting, ending}
use Rattle.digit_map.specs.Meaning.{Takes, Says, closes, takes, repeats, skips}
use Rattle.map_plan.specs.declared.places.Places.{Places}
use Rattle.map_plan.specs.Members.{holds}
use Rattle.map_plan.specs.Asking as ask
use Rattle.map_plan.specs.Asking.{accepts, same_mark, answered, dot_first}
use Rattle.map_plan.specs.Live.{Closed, Rest, SomeLive}
use Rattle.map_plan.proofs.Symbols.{accepts_complete, same_mark_refl}
use Rattle.map_plan.proofs.Spots.{says_inside, behind}
use Rattle.map_plan.proofs.Steps.{same_symbol, same_step_mark, never_ended}

-- the first place takes the entry's first step, or is its end
data First : List Node → Entry → Type 0 where
  at_end : (m : Mark) (h : Bool) (r : List Node) → First (ending m h ∷ r) (ended m h)
  at_step : (p : Position) (m : Mark) (h : Bool) (r : List Node) {s : Symbol} {e : Entry} → Takes p s →
      First (awaiting p m h ∷ r) (prepend (step s m) e)

-- what the first place answers of an entry's first step
first_takes_lem : {xs : List Node} {x : Entry} → First xs x → (s : Symbol) (m : Mark) (e : Entry) →
    x ≡ prepend (step s m) e → answered (ask.takes_symbol s) xs ≡ true
first_takes_lem (at_end m h r) s n e q = absurd (never_ended m h (step s n) e q)
first_takes_lem (at_step p m h r {s = t} {e = f} k) s n e q =
    subst (λ y. accepts p y ≡ true) (same_symbol t s m n f e q) (accepts_complete p k)

first_awaits : {xs : List Node} {x : Entry} → First xs x → (s : Step) (e : Entry) → x ≡ prepend s e →
    answered ask.awaits xs ≡ true
first_awaits (at_end m h r) s e q = absurd (never_ended m h s e q)
first_awaits (at_step p m h r k) s e q = refl

first_under : {xs : List Node} {x : Entry} → First xs x → (s : Symbol) (m : Mark) (e : Entry) →
    x ≡ prepend (step s m) e → answered (ask.under m) xs ≡ true
first_under (at_end m h r) s n e q = absurd (never_ended m h (step s n) e q)
first_under (at_step p m h r {s = t} {e = f} k) s n e q =
    subst (λ y. same_mark y m ≡ true) (same_step_mark t s m n f e q) (same_mark_refl m)

-- what the first place answers of an entry's end
first_ends : {xs : List Node} {x : Entry} → First xs x → (m : Mark) (h : Bool) → x ≡ ended m h →
    answered ask.ends xs ≡ true
first_ends (at_end m h r) n j q = refl
first_ends (at_step p m h r {s = t} {e = f} k) n j q = absurd (never_ended n j (step t m) f (sym q))

first_settles_lem : {xs : List Node} {x : Entry} → First xs x → (m : Mark) → x ≡ ended m false →
    answered ask.settles xs ≡ true
first_settles_lem (at_end m h r) n q = ap (λ (y : Entry). not y.held) q
first_settles_lem (at_step p m h r {s = t} {e = f} k) n q = absurd (never_ended n false (step t m) f (sym q))

first_closes : {xs : List Node} {x : Entry} → First xs x → (m : Mark) (h : Bool) → x ≡ ended m h →
    answered (ask.under m) xs ≡ true
first_closes (at_end m h r) n j q =
    subst (λ y. same_mark y m ≡ true) (ap (λ (y : Entry). y.closing) q) (same_mark_refl m)
first_closes (at_step p m h r {s = t} {e = f} k) n j q = absurd (never_ended n j (step t m) f (sym q))

module _ (ns : List Node) (live : Places) (c : Closed ns live) where
  -- a live place at which the entry's first step or its end is awaited
  finds : (i : ℕ) {xs : List Node} {e : Entry} → Says xs e → drop i ns ≡ xs → holds live i ≡ true →
      (k : ℕ) × (holds live k ≡ true) × First (drop k ns) e
  finds i (closes m h r) q v = (i, v, rw q (at_end m h r))
  finds i (takes p m h {ns = r} d t x) q v = (i, v, rw q (at_step p m h r t))
  finds i (repeats p m h {ns = r} d t x) q v = (i, v, rw q (at_step p m h r t))
  finds i (skips p m h {ns = r} {e = e} d x) q v =
      let b = behind ns i (awaiting p m h) r q in
      let y : Says (drop (i + 1) ns) e = rw b x in
      let l = says_inside ns (i + 1) y in
      finds (i + 1) x b (c i l (and_from (holds live i) (dot_first (drop i ns)) v (rw q d)))

  at_live : {e : Entry} → Rest ns live e → (k : ℕ) × (holds live k ≡ true) × First (drop k ns) e
  at_live x = finds x.0 x.2 refl x.1

  pub starts_found : (s : Symbol) → sets.Starts (Rest ns live) s → SomeLive ns live (ask.takes_symbol s)
  starts_found s x = let f = at_live x.2 in (f.0, f.1, first_takes_lem f.2 s x.0 x.1 refl)

  pub ended_found : sets.Ended (Rest ns live) → SomeLive ns live ask.ends
  ended_found x = let f = at_live x.2 in (f.0, f.1, first_ends f.2 x.0 x.1 refl)

  pub settled_found : sets.Settled (Rest ns live) → SomeLive ns live ask.settles
  settled_found x = let f = at_live x.1 in (f.0, f.1, first_settles_lem f.2 x.0 refl)

  pub goes_found : sets.GoesOn (Rest ns live) → SomeLive ns live ask.awaits
  goes_found x = let f = at_live x.2 in (f.0, f.1, first_awaits f.2 x.0 x.1 refl)

  pub under_found : (m : Mark) → sets.Under (Rest ns live) m → SomeLive ns live (ask.under m)
  under_found m (inl x) = let f = at_live x.2 in (f.0, f.1, first_under f.2 x.0 m x.1 refl)
  under_found m (inr x) = let f = at_live x.1 in (f.0, f.1, first_closes f.2 m x.0 refl)
