-- The places of every map that the grammar derives are proper. Assumes nothing.
use Rattle.std.proofs.Common.{◌≡◌, ℕ, Bool, true, false, not, ◌&&◌, ◌||◌, ltb, List, [], ◌∷◌, ◌++◌, Some, None, Option, refl, ap}
use Rattle.std.proofs.lemmas.List.{append-nil, append_assoc}
use Rattle.std.proofs.lemmas.Bool.{and_parts, and_from, ltb-true, lt-ltb, not-true}
use Rattle.keypad.specs.declared.key.Mark.{Mark}
use Rattle.keypad.specs.declared.timers.Timers.{Timers}
use Rattle.digit_map.specs.declared.token.Token.{Token}
use Rattle.digit_map.specs.declared.node.Position.{Position}
use Rattle.digit_map.specs.declared.node.Node.{Node}
use Rattle.digit_map.specs.Nodes.{ending, needed, needs_key}
use Rattle.digit_map.specs.Meaning.{whole_alternatives}
use Rattle.digit_map.specs.Proper.{owes, proper_at, proper_from, proper}
use Rattle.digit_map.specs.Grammar as g
use Rattle.digit_map.specs.Grammar.{is_mark, Alternative, Front, Whole}
use Rattle.digit_map.proofs.NodeLaws.{Filled, filled_push}
use Rattle.digit_map.proofs.KeyedPlaces.{Keyed, Place, Places, places}

-- a position has keys, and at an end no key is owed
abbrev pub LawfulAt : Bool → Option Position → Type 0
LawfulAt b (Some p) = Keyed p.keys
LawfulAt b None = b ≡ false

-- so at every place
abbrev pub Lawful : Bool → List Node → Type 0
Lawful b [] = Unit {0}
Lawful b (n ∷ ns) = LawfulAt b n.awaits × Lawful (owes b n.awaits) ns

keyed_sound : (k : ℕ) → (ltb 0 k && ltb k 65536) ≡ true → Keyed k
keyed_sound k e = let h = and_parts (ltb 0 k) (ltb k 65536) e in
    (ltb-true 0 k h.0, ltb-true k 65536 h.1)

keyed_complete : (k : ℕ) → Keyed k → (ltb 0 k && ltb k 65536) ≡ true
keyed_complete k h = and_from (ltb 0 k) (ltb k 65536) (lt-ltb 0 k h.0) (lt-ltb k 65536 h.1)

lawful_at_sound : (b : Bool) (o : Option Position) → proper_at b o ≡ true → LawfulAt b o
lawful_at_sound b (Some p) e = keyed_sound p.keys e
lawful_at_sound b None e = not-true b e

lawful_at_complete : (b : Bool) (o : Option Position) → LawfulAt b o → proper_at b o ≡ true
lawful_at_complete b (Some p) h = keyed_complete p.keys h
lawful_at_complete b None h = ap not h

-- the test says so of every place
pub lawful_sound : (ns : List Node) (b : Bool) → proper_from b ns ≡ true → Lawful b ns
lawful_sound [] b e = tt
lawful_sound (n ∷ ns) b e =
    let h = and_parts (proper_at b n.awaits) (proper_from (owes b n.awaits) ns) e in
    (lawful_at_sound b n.awaits h.0, lawful_sound ns _ h.1)

lawful_complete : (ns : List Node) (b : Bool) → Lawful b ns → proper_from b ns ≡ true
lawful_complete [] b h = refl
lawful_complete (n ∷ ns) b h =
    and_from (proper_at b n.awaits) (proper_from (owes b n.awaits) ns)
    (lawful_at_complete b n.awaits h.0) (lawful_complete ns _ h.1)

lawful_at : (o : Option Position) (b : Bool) → Place o → LawfulAt b o
lawful_at (Some p) b h = h
lawful_at None b h = absurd h

owes_less : (b d k : Bool) → (b && not (not d || k)) ≡ false → ((b && d) && not k) ≡ false
owes_less false d k e = refl
owes_less true false k e = refl
owes_less true true k e = e

-- the key that is owed is needed at a place or behind it
place_owes : (o : Option Position) (b k : Bool) → Place o → (b && not (needed o || k)) ≡ false →
    (owes b o && not k) ≡ false
place_owes (Some p) b k h e = owes_less b p.dotted k e
place_owes None b k h e = absurd h

none_owed : (b : Bool) → (b && true) ≡ false → b ≡ false
none_owed true e = e
none_owed false e = e

-- an alternative's places, which need a key if one is owed, its end, and what stands behind it
places_lawful : (us : List Node) (b : Bool) (m : Mark) (h : Bool) (ns : List Node) → Places us →
    (b && not (needs_key us)) ≡ false → Lawful true ns → Lawful b (us ++ ending m h ∷ ns)
places_lawful [] b m h ns p e s = (none_owed b e, s)
places_lawful (u ∷ us) b m h ns p e s = (
  lawful_at u.awaits b p.0,
  places_lawful us _ m h ns p.1 (place_owes u.awaits b (needs_key us) p.0 e) s,
)

alternative_lawful : {u : List Token} {us : List Node} → Alternative u us → (ns : List Node) →
    Lawful true ns → Lawful true (us ++ ns)
alternative_lawful (g.elements {ns = us} {m = m} {e = e} x k) ns s =
    rw append_assoc (places_lawful us true m (is_mark e) ns (places x) (ap not k) s)

front_lawful : {u : List Token} {t : Timers} {b : Bool} {n : ℕ} {us : List Node} → Front u t b n us →
    (ns : List Node) → Lawful true ns → Lawful true (us ++ ns)
front_lawful (g.bare x) ns s = s
front_lawful (g.opened x c o) ns s = s
front_lawful (g.barred {us = us} x y c o) ns s =
    rw append_assoc (front_lawful x (us ++ ns) (alternative_lawful y ns s))

-- behind an end an alternative begins
whole_push : (ns : List Node) (m : Mark) (h : Bool) → whole_alternatives (ns ++ ending m h ∷ []) ≡ true
whole_push [] m h = refl
whole_push (n ∷ []) m h = refl
whole_push (n ∷ k ∷ ns) m h = whole_push (k ∷ ns) m h

proper_complete : (ns : List Node) → Filled ns → whole_alternatives ns ≡ true → Lawful true ns →
    proper ns ≡ true
proper_complete [] f w h = absurd f
proper_complete (n ∷ ns) f w h =
    and_from (whole_alternatives (n ∷ ns)) (proper_from true (n ∷ ns)) w (lawful_complete (n ∷ ns) true h)

-- what stands before an alternative, and that alternative
alternative_last : (ns : List Node) {u : List Token} {us : List Node} → Alternative u us →
    Filled (ns ++ us) × (whole_alternatives (ns ++ us) ≡ true)
alternative_last ns (g.elements {ns = us} {m = m} {e = e} x k) =
    let z = ending m (is_mark e) in (
      rw append_assoc at (filled_push (ns ++ us) z []),
      rw append_assoc at (whole_push (ns ++ us) m (is_mark e)),
    )

all_proper : (ns : List Node) {u : List Token} {us : List Node} →
    ((vs : List Node) → Lawful true vs → Lawful true (ns ++ vs)) → Alternative u us → proper (ns ++ us) ≡ true
all_proper ns {us = us} f x =
    let h = alternative_last ns x in
    proper_complete (ns ++ us) h.0 h.1 (f us (rw append-nil at (alternative_lawful x [] tt)))

pub derived_proper : {ts : List Token} {t : Timers} {ns : List Node} {n : ℕ} → Whole ts t ns n →
    proper ns ≡ true
derived_proper (g.single {ns = ns} x y o) = all_proper ns (front_lawful x) y
derived_proper (g.several {ns = ns} x y c o p) = all_proper ns (front_lawful x) y
