-- What the answers of the live places tell of the entries. Assumes nothing.
use Rattle.std.proofs.Common.{◌≡◌, ℕ, ◌<◌, Bool, true, false, not, List, [], ◌∷◌, length, drop, Some, None, Option, sym, refl, ap, subst, inl, inr}
use mathlib.Core.Logic.{∥∥₁_map}
use Rattle.std.proofs.lemmas.Bool.{both_ways, and_parts, not-true}
use Rattle.keypad.specs.declared.key.Symbol.{Symbol}
use Rattle.keypad.specs.declared.key.Mark.{Mark}
use Rattle.keypad.specs.Entries.{Step, Entry, step, ended, prepend}
use Rattle.keypad.specs.Sets as sets
use Rattle.keypad.specs.Answers.{Tells}
use Rattle.digit_map.specs.declared.node.Position.{Position}
use Rattle.digit_map.specs.declared.node.Node.{Node}
use Rattle.digit_map.specs.Nodes.{awaiting}
use Rattle.digit_map.specs.Meaning.{Takes, Says, closes, takes, repeats, skips, is_end}
use Rattle.digit_map.specs.Proper.{proper}
use Rattle.digit_map.proofs.Meanings.{completes, takes_some}
use Rattle.digit_map.specs.Maps.{places}
use Rattle.digit_map.proofs.Maps.{is_proper}
use Rattle.map_plan.specs.declared.places.Places.{Places}
use Rattle.map_plan.specs.declared.plan.MapPlan.{MapPlan}
use Rattle.map_plan.specs.Members.{holds}
use Rattle.map_plan.specs.Asking as ask
use Rattle.map_plan.specs.Asking.{accepts_at, answered}
use Rattle.map_plan.specs.Live.{Closed, Rest, SomeLive}
use Rattle.map_plan.specs.Plans.{rest_of, SomeAnswers}
use Rattle.map_plan.proofs.Symbols.{accepts_sound, same_mark_sound}
use Rattle.map_plan.proofs.Spots.{node, answered_inside}
use Rattle.map_plan.proofs.Finds.{starts_found, ended_found, settled_found, goes_found, under_found}

-- the answer tells of what follows from the fact, and from which it follows
pub tells_of : {P Q : Type 0} (r : Bool) → (P → Q) → (Q → P) → Tells P r → Tells Q r
tells_of true f g h = ∥∥₁_map h f
tells_of false f g h = λ q. h (g q)

-- where an entry can be completed, one starts with each symbol that the position takes
starts_with : (p : Position) (m : Mark) (h : Bool) (r : List Node) {e : Entry} {s : Symbol} → Takes p s →
    Says (awaiting p m h ∷ r) e → (x : Entry) × Says (awaiting p m h ∷ r) (prepend (step s m) x)
starts_with p m h r k (takes _ _ _ {e = e} d t x) = (e, takes p m h d k x)
starts_with p m h r k (repeats _ _ _ {e = e} d t x) = (e, repeats p m h d k x)
starts_with p m h r {e = e} k (skips _ _ _ d x) = (e, repeats p m h d k (skips p m h d x))

starts_at : (o : Option Position) (m : Mark) (h : Bool) (r : List Node) {e : Entry} (s : Symbol) →
    accepts_at s o ≡ true → Says (node o m h ∷ r) e →
    (x : Entry) × Says (node o m h ∷ r) (prepend (step s m) x)
starts_at (Some p) m h r s a x = starts_with p m h r (accepts_sound p s a) x
starts_at None m h r s a x = absurd (both_ways false refl a)

starts_first : (xs : List Node) {e : Entry} (s : Symbol) → answered (ask.takes_symbol s) xs ≡ true →
    Says xs e → (m : Mark) × (x : Entry) × Says xs (prepend (step s m) x)
starts_first [] s a x = absurd (both_ways false refl a)
starts_first (n ∷ r) s a x =
    let y = starts_at n.awaits n.mark n.marked r s a x in (n.mark, y.0, y.1)

ends_at : (o : Option Position) (m : Mark) (h : Bool) (r : List Node) → is_end o ≡ true →
    Says (node o m h ∷ r) (ended m h)
ends_at (Some p) m h r e = absurd (both_ways false refl e)
ends_at None m h r e = closes m h r

ends_first : (xs : List Node) → answered ask.ends xs ≡ true → (m : Mark) × (h : Bool) × Says xs (ended m h)
ends_first [] a = absurd (both_ways false refl a)
ends_first (n ∷ r) a = (n.mark, n.marked, ends_at n.awaits n.mark n.marked r a)

settles_first : (xs : List Node) → answered ask.settles xs ≡ true → (m : Mark) × Says xs (ended m false)
settles_first [] a = absurd (both_ways false refl a)
settles_first (n ∷ r) a =
    let b = and_parts (is_end n.awaits) (not n.marked) a in
    let x = ends_at n.awaits n.mark n.marked r b.0 in
    (n.mark, subst (λ h. Says (n ∷ r) (ended n.mark h)) (not-true n.marked b.1) x)

module _ (ns : List Node) (live : Places) (whole : proper ns ≡ true) where
  starts_told : (s : Symbol) → SomeLive ns live (ask.takes_symbol s) → sets.Starts (Rest ns live) s
  starts_told s x =
      let e = completes ns x.0 whole (answered_inside ns (ask.takes_symbol s) x.0 x.2) in
      let y = starts_first (drop x.0 ns) s x.2 e.1 in (y.0, y.1, (x.0, x.1, y.2))

  ended_told : SomeLive ns live ask.ends → sets.Ended (Rest ns live)
  ended_told x = let y = ends_first (drop x.0 ns) x.2 in (y.0, y.1, (x.0, x.1, y.2))

  settled_told : SomeLive ns live ask.settles → sets.Settled (Rest ns live)
  settled_told x = let y = settles_first (drop x.0 ns) x.2 in (y.0, (x.0, x.1, y.1))

  -- some step can be made at each position
  steps_at : (i : ℕ) (o : Option Position) (m : Mark) (h : Bool) (r : List Node) →
      drop i ns ≡ node o m h ∷ r → is_end o ≡ false →
      (s : Symbol) × (x : Entry) × Says (drop i ns) (prepend (step s m) x)
  steps_at i (Some p) m h r q a =
      let k = takes_some ns i whole p m h r q in
      let l : i < length ns = answered_inside ns ask.awaits i (ap (answered ask.awaits) q) in
      let e = completes ns i whole l in
      let y = starts_with p m h r k.1 (subst (λ xs. Says xs e.0) q e.1) in
      (k.0, y.0, subst (λ xs. Says xs (prepend (step k.0 m) y.0)) (sym q) y.1)
  steps_at i None m h r q a = absurd (both_ways true a refl)

  goes_first : (i : ℕ) (xs : List Node) → drop i ns ≡ xs → answered ask.awaits xs ≡ true →
      (s : Step) × (x : Entry) × Says (drop i ns) (prepend s x)
  goes_first i [] q a = absurd (both_ways false refl a)
  goes_first i (n ∷ r) q a =
      let y = steps_at i n.awaits n.mark n.marked r q (not-true (is_end n.awaits) a) in
      (step y.0 n.mark, y.1, y.2)

  goes_told : SomeLive ns live ask.awaits → sets.GoesOn (Rest ns live)
  goes_told x =
      let y = goes_first x.0 (drop x.0 ns) refl x.2 in (y.0, y.1, (x.0, x.1, y.2))

  -- at each place a step or an end is awaited under its mark
  under_at : (i : ℕ) → holds live i ≡ true → (n : Node) (r : List Node) → drop i ns ≡ n ∷ r → (b : Bool) →
      is_end n.awaits ≡ b → sets.Under (Rest ns live) n.mark
  under_at i v n r q true e =
      inr (n.marked, (i, v, rw q (ends_at n.awaits n.mark n.marked r e)))
  under_at i v n r q false e =
      let y = steps_at i n.awaits n.mark n.marked r q e in inl (y.0, y.1, (i, v, y.2))

  under_first : (m : Mark) (i : ℕ) → holds live i ≡ true → (xs : List Node) → drop i ns ≡ xs →
      answered (ask.under m) xs ≡ true → sets.Under (Rest ns live) m
  under_first m i v [] q a = absurd (both_ways false refl a)
  under_first m i v (n ∷ r) q a =
      subst (sets.Under (Rest ns live)) (sym (same_mark_sound m n.mark a))
      (under_at i v n r q (is_end n.awaits) refl)

  under_told : (m : Mark) → SomeLive ns live (ask.under m) → sets.Under (Rest ns live) m
  under_told m x = under_first m x.0 x.1 (drop x.0 ns) refl x.2

  -- the answers of live places are those of the entries from them on
  module _ (c : Closed ns live) (r : Bool) where
    pub rest_starts : (s : Symbol) → Tells (SomeLive ns live (ask.takes_symbol s)) r →
        Tells (sets.Starts (Rest ns live) s) r
    rest_starts s = tells_of r (starts_told s) (starts_found ns live c s)

    pub rest_ended : Tells (SomeLive ns live ask.ends) r → Tells (sets.Ended (Rest ns live)) r
    rest_ended = tells_of r ended_told (ended_found ns live c)

    pub rest_settled : Tells (SomeLive ns live ask.settles) r → Tells (sets.Settled (Rest ns live)) r
    rest_settled = tells_of r settled_told (settled_found ns live c)

    pub rest_goes : Tells (SomeLive ns live ask.awaits) r → Tells (sets.GoesOn (Rest ns live)) r
    rest_goes = tells_of r goes_told (goes_found ns live c)

    pub rest_under : (m : Mark) → Tells (SomeLive ns live (ask.under m)) r →
        Tells (sets.Under (Rest ns live) m) r
    rest_under m = tells_of r (under_told m) (under_found ns live c m)

-- the answers of a plan's live places are those of its entries
module _ (p : MapPlan) (r : Bool) where
  abbrev ns : List Node
  ns = places p.map

  whole : proper ns ≡ true
  whole = is_proper p.map

  pub tells_starts : (s : Symbol) → Tells (SomeAnswers p (ask.takes_symbol s)) r →
      Tells (sets.Starts (rest_of p) s) r
  tells_starts s = rest_starts ns p.live whole p.closed r s

  pub tells_ended : Tells (SomeAnswers p ask.ends) r → Tells (sets.Ended (rest_of p)) r
  tells_ended = rest_ended ns p.live whole p.closed r

  pub tells_settled : Tells (SomeAnswers p ask.settles) r → Tells (sets.Settled (rest_of p)) r
  tells_settled = rest_settled ns p.live whole p.closed r

  pub tells_goes : Tells (SomeAnswers p ask.awaits) r → Tells (sets.GoesOn (rest_of p)) r
  tells_goes = rest_goes ns p.live whole p.closed r

  pub tells_under : (m : Mark) → Tells (SomeAnswers p (ask.under m)) r → Tells (sets.Under (rest_of p) m) r
  tells_under m = rest_under ns p.live whole p.closed r m
