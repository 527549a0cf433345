-- The symbols that a position accepts are those that it takes, and marks are told apart. Assumes nothing.
use Rattle.std.proofs.Common.{◌≡◌, ℕ, Bool, true, false, not, ltb, refl, ap, subst}
use Rattle.std.proofs.lemmas.Bool.{and_parts, and_from, ltb-true, lt-ltb, not-true, both_ways}
use Rattle.keypad.specs.declared.key.Symbol.{Symbol}
use Rattle.keypad.specs.declared.key.Symbol.TheVariants as symbol
use Rattle.keypad.specs.declared.key.Mark.{Mark}
use Rattle.keypad.specs.declared.key.Mark.TheVariants.{Unmarked, Short, Long}
use Rattle.digit_map.specs.declared.node.Position.{Position}
use Rattle.digit_map.specs.Masks.{has}
use Rattle.digit_map.specs.Meaning.{symbol_of_lem, Takes, one_of}
use Rattle.map_plan.specs.Asking.{in_keys, accepts, same_mark}

takes_key : (p : Position) (k : ℕ) (l : Bool) → p.long ≡ l → in_keys p.keys k ≡ true →
    Takes p (symbol_of_lem l k)
takes_key p k l e h =
    let x = and_parts (ltb k 16) (has p.keys k) h in
    subst (λ b. Takes p (symbol_of_lem b k)) e (one_of k (ltb-true k 16 x.0) x.1)

pub accepts_sound : (p : Position) (s : Symbol) → accepts p s ≡ true → Takes p s
accepts_sound p (symbol.Plain k) e =
    let x = and_parts (not p.long) (in_keys p.keys k) e in
    takes_key p k false (not-true p.long x.0) x.1
accepts_sound p (symbol.Long k) e =
    let x = and_parts p.long (in_keys p.keys k) e in takes_key p k true x.0 x.1

accepts_key : (p : Position) (k : ℕ) (l : Bool) → p.long ≡ l → in_keys p.keys k ≡ true →
    accepts p (symbol_of_lem l k) ≡ true
accepts_key p k false e h = and_from (not p.long) (in_keys p.keys k) (ap not e) h
accepts_key p k true e h = and_from p.long (in_keys p.keys k) e h

pub accepts_complete : (p : Position) {s : Symbol} → Takes p s → accepts p s ≡ true
accepts_complete p (one_of k l h) =
    accepts_key p k p.long refl (and_from (ltb k 16) (has p.keys k) (lt-ltb k 16 l) h)

pub same_mark_refl : (m : Mark) → same_mark m m ≡ true
same_mark_refl Unmarked = refl
same_mark_refl Short = refl
same_mark_refl Long = refl

pub same_mark_sound : (m n : Mark) → same_mark m n ≡ true → m ≡ n
same_mark_sound Unmarked Unmarked e = refl
same_mark_sound Unmarked Short e = absurd (both_ways false refl e)
same_mark_sound Unmarked Long e = absurd (both_ways false refl e)
same_mark_sound Short Unmarked e = absurd (both_ways false refl e)
same_mark_sound Short Short e = refl
same_mark_sound Short Long e = absurd (both_ways false refl e)
same_mark_sound Long Unmarked e = absurd (both_ways false refl e)
same_mark_sound Long Short e = absurd (both_ways false refl e)
same_mark_sound Long Long e = refl
