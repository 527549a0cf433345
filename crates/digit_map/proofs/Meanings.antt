-- Every proper map has an entry from each place on, and none without steps. Assumes nothing.
use Rattle.std.proofs.Common.{◌≡◌, ℕ, zero, suc, ◌<◌, Bool, true, false, List, [], ◌∷◌, ◌++◌, length, drop, Some, None, Option, refl, subst, arith}
use Rattle.std.proofs.lemmas.Bool.{both_ways, and_parts}
use Rattle.keypad.specs.declared.key.Mark.{Mark}
use Rattle.keypad.specs.declared.key.Symbol.{Symbol}
use Rattle.keypad.specs.Entries.{Entry, ended}
use Rattle.digit_map.specs.declared.node.Position.{Position}
use Rattle.digit_map.specs.declared.node.Node.{Node}
use Rattle.digit_map.specs.Nodes.{awaiting, no_position, count_ends}
use Rattle.digit_map.specs.Meaning.{symbol_of_lem, Takes, one_of, Says, closes, takes, repeats, skips}
use Rattle.digit_map.specs.Meaning.{is_end, whole_alternatives, Stepped, Meant}
use Rattle.digit_map.specs.Proper.{owes, proper_from, proper}
use Rattle.digit_map.proofs.Masks.{some_key}
use Rattle.digit_map.proofs.KeyedPlaces.{Keyed}
use Rattle.digit_map.proofs.Propers.{LawfulAt, Lawful, lawful_sound}

-- every entry of such places has a step
says_stepped : {ns : List Node} {e : Entry} → Says ns e → Lawful true ns → Stepped e
says_stepped (closes m h ns) s e = both_ways true s.0 refl
says_stepped (takes p m h d t x) s e = let z : ◌≡◌ {A = ℕ} 0 1 = cc in omega arith
says_stepped (repeats p m h d t x) s e = let z : ◌≡◌ {A = ℕ} 0 1 = cc in omega arith
says_stepped (skips p m h {ns = ns} d x) s e = says_stepped x (subst (λ b. Lawful b ns) d s.1) e

behind_end : (o : Option Position) (b : Bool) (ns : List Node) → is_end o ≡ true →
    Lawful (owes b o) ns → Lawful true ns
behind_end (Some p) b ns e s = absurd (both_ways false refl e)
behind_end None b ns e s = s

-- a key is owed where an alternative begins
begins_lawful : (front back : List Node) (b : Bool) → whole_alternatives front ≡ true →
    (front ≡ [] → b ≡ true) → Lawful b (front ++ back) → Lawful true back
begins_lawful [] back b e h s = subst (λ b. Lawful b back) (h refl) s
begins_lawful (n ∷ []) back b e h s = behind_end n.awaits b back e s.1
begins_lawful (n ∷ m ∷ ns) back b e h s =
    begins_lawful (m ∷ ns) back (owes b n.awaits) e
    (λ q. let z : ◌≡◌ {A = ℕ} 0 1 = cc in absurd (omega arith)) s.1

-- a position is taken once, or not at all where it has a dot
says_position : (p : Position) (m : Mark) (h : Bool) (ns : List Node) → Keyed p.keys →
    (b : Bool) → p.dotted ≡ b → (e : Entry) × Says ns e → (e : Entry) × Says (awaiting p m h ∷ ns) e
says_position p m h ns s true d x = (x.0, skips p m h d x.1)
says_position p m h ns s false d x =
    let k = some_key p.keys s.0 s.1 in (_, takes p m h d (one_of k.0 k.1 k.2) x.1)

-- a place, given by its fields, is said before what stands behind it, or ends the entry
says_place : (o : Option Position) (m : Mark) (h : Bool) (ns : List Node) (b : Bool) → LawfulAt b o →
    (no_position o ≡ 0 → (e : Entry) × Says ns e) →
    (e : Entry) × Says (record { awaits = o; mark = m; marked = h } ∷ ns) e
says_place (Some p) m h ns b s x = says_position p m h ns s p.dotted refl (x refl)
says_place None m h ns b s x = (ended m h, closes m h ns)

-- an entry goes up to the first end
says_some : (ns : List Node) (b : Bool) → Lawful b ns → 0 < count_ends ns → (e : Entry) × Says ns e
says_some [] b s l = absurd (omega arith)
says_some (n ∷ ns) b s l =
    says_place n.awaits n.mark n.marked ns b s.0 (λ z. says_some ns _ s.1 (omega arith))

-- the last place of whole alternatives is an end
end_counts : (o : Option Position) → is_end o ≡ true → 0 < no_position o
end_counts (Some p) e = absurd (both_ways false refl e)
end_counts None e = omega arith

last_counts : (n : Node) (ns : List Node) → whole_alternatives (n ∷ ns) ≡ true → 0 < count_ends (n ∷ ns)
last_counts n [] e = let h = end_counts n.awaits e in omega arith
last_counts n (m ∷ ns) e = let h = last_counts m ns e in omega arith

proper_parts : (ns : List Node) → proper ns ≡ true → (0 < count_ends ns) × Lawful true ns
proper_parts [] e = absurd (both_ways false refl e)
proper_parts (n ∷ ns) e =
    let h = and_parts (whole_alternatives (n ∷ ns)) (proper_from true (n ∷ ns)) e in
    (last_counts n ns h.0, lawful_sound (n ∷ ns) true h.1)

pub meant : (ns : List Node) → proper ns ≡ true → Meant ns
meant ns e =
    let h = proper_parts ns e in
    let y = says_some ns true h.1 h.0 in record {
      some = (y.0, record { front = []; back = ns; is = refl; begins = refl; says = y.1 });
      stepped = λ x z. says_stepped z.says (begins_lawful z.front z.back true z.begins (λ _. refl)
          (subst (Lawful true) z.is h.1));
    }

from_place : (ns : List Node) (b : Bool) (i : ℕ) → Lawful b ns → whole_alternatives ns ≡ true →
    i < length ns → (e : Entry) × Says (drop i ns) e
from_place [] b i s e l = absurd (omega arith)
from_place (n ∷ ns) b zero s e l = says_some (n ∷ ns) b s (last_counts n ns e)
from_place (n ∷ []) b (suc i) s e l = absurd (omega arith)
from_place (n ∷ m ∷ ns) b (suc i) s e l = from_place (m ∷ ns) (owes b n.awaits) i s.1 e (omega arith)

-- from each place of a proper map on an entry can be completed
pub completes : (ns : List Node) (i : ℕ) → proper ns ≡ true → i < length ns → (e : Entry) × Says (drop i ns) e
completes [] i e l = absurd (omega arith)
completes (n ∷ ns) i e l =
    let h = and_parts (whole_alternatives (n ∷ ns)) (proper_from true (n ∷ ns)) e in
    from_place (n ∷ ns) true i (lawful_sound (n ∷ ns) true h.1) h.0 l

lawful_drop : (i : ℕ) (ns : List Node) (b : Bool) → Lawful b ns → (c : Bool) × Lawful c (drop i ns)
lawful_drop zero ns b s = (b, s)
lawful_drop (suc i) [] b s = (b, s)
lawful_drop (suc i) (n ∷ ns) b s = lawful_drop i ns (owes b n.awaits) s.1

-- each position of a proper map takes some symbol
pub takes_some : (ns : List Node) (i : ℕ) → proper ns ≡ true →
    (p : Position) (m : Mark) (h : Bool) (r : List Node) → drop i ns ≡ awaiting p m h ∷ r →
    (s : Symbol) × Takes p s
takes_some ns i e p m h r q =
    let l = lawful_drop i ns true (proper_parts ns e).1 in
    let k : Keyed p.keys = (subst (Lawful l.0) q l.1).0 in
    let x = some_key p.keys k.0 k.1 in
    (symbol_of_lem p.long x.0, one_of x.0 x.1 x.2)
