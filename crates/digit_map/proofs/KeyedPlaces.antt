-- The places of a map's elements await positions that have keys. Assumes nothing.
use Rattle.std.proofs.Common.{◌≡◌, ℕ, ◌-◌, ◌^◌, ◌<◌, ◌≤◌, Bool, true, ◌&&◌, eqb, List, [], ◌∷◌, ◌++◌, Some, None, Option, subst, arith, lit<}
use Rattle.std.proofs.lemmas.Bool.Decides.{nat_tests}
use Rattle.std.proofs.lemmas.Bool.{cond_both}
use Rattle.keypad.specs.declared.key.Mark.{Mark}
use Rattle.digit_map.specs.declared.sign.Sign.{Sign}
use Rattle.digit_map.specs.declared.sign.Sign.TheVariants as sign
use Rattle.digit_map.specs.declared.token.Token.{Token}
use Rattle.digit_map.specs.declared.node.Position.{Position}
use Rattle.digit_map.specs.declared.node.Node.{Node}
use Rattle.digit_map.specs.Bytes.{digit, letter, key_letter_lem, letter_key}
use Rattle.digit_map.specs.Signs.{sign_of}
use Rattle.digit_map.specs.Nodes.{with_dot_lem, dot_last_lem}
use Rattle.digit_map.specs.Sets.{span}
use Rattle.digit_map.specs.Grammar as g
use Rattle.digit_map.specs.Grammar.{Member, Members, Choice, Placed, Elements, Final}
use Rattle.digit_map.proofs.Masks.{one_above, one_below, digits_below}
use Rattle.digit_map.proofs.Masks.{span_above, span_below, or_above, or_below}

-- a set that is not empty, of keys below 16
abbrev pub Keyed : ℕ → Type 0
Keyed k = (0 < k) × (k < 2 ^ 16)

-- a position with such a set is awaited, and no end
abbrev pub Place : Option Position → Type 0
Place (Some p) = Keyed p.keys
Place None = ⊥

-- so at every place
abbrev pub Places : List Node → Type 0
Places [] = Unit {0}
Places (n ∷ ns) = Place n.awaits × Places ns

key_keyed : (k : ℕ) → k < 16 → Keyed (2 ^ k)
key_keyed k h = (one_above k, one_below k h)

digit_keyed : (a : ℕ) → digit a ≡ true → Keyed (2 ^ (a - 48))
digit_keyed a e = key_keyed (a - 48) (grind (arith, nat_tests))

letter_keyed : (a : ℕ) → key_letter_lem a ≡ true → Keyed (2 ^ letter_key a)
letter_keyed a e = key_keyed (letter_key a) (grind (arith, nat_tests))

range_keyed : (a b : ℕ) → digit b ≡ true → a ≤ b → Keyed (span (a - 48) (b - 48))
range_keyed a b e l =
    (span_above (a - 48) (b - 48) (omega arith), span_below (a - 48) (b - 48) (grind (arith, nat_tests)))

member_keyed : {u : List Token} {k : ℕ} → Member u k → Keyed k
member_keyed (g.one_digit a c o e) = digit_keyed a e
member_keyed (g.one_letter a c o e) = letter_keyed a e
member_keyed (g.range a c o d p b x q e f l) = range_keyed a b f l

-- members may be none
members_below : {u : List Token} {k : ℕ} → Members u k → k < 2 ^ 16
members_below g.none = lit< tt
members_below (g.more {m = m} {n = n} x y) = or_below m n (members_below x) (member_keyed y).1

-- the keys that a sign stands for
abbrev KeyedSign : Sign → Type 0
KeyedSign (sign.Keys k) = Keyed k
KeyedSign (sign.Timer m) = Unit {0}
KeyedSign (sign.Field i) = Unit {0}
KeyedSign sign.Hold = Unit {0}
KeyedSign sign.SetOpen = Unit {0}
KeyedSign sign.Open = Unit {0}
KeyedSign sign.Close = Unit {0}
KeyedSign sign.Bar = Unit {0}
KeyedSign sign.Dot = Unit {0}
KeyedSign sign.End = Unit {0}
KeyedSign sign.Other = Unit {0}

sign_keyed : (b : ℕ) (c : Bool) → KeyedSign (sign_of b c)
sign_keyed b c =
    cond_both (digit b) _ _ KeyedSign (digit_keyed b)
    (λ _. cond_both (key_letter_lem b) _ _ KeyedSign (letter_keyed b)
    (λ _. cond_both (letter 88 b) _ _ KeyedSign (λ _. (lit< tt, digits_below))
    (λ _. cond_both (letter 84 b && c) _ _ KeyedSign (λ _. tt)
    (λ _. cond_both (letter 83 b && c) _ _ KeyedSign (λ _. tt)
    (λ _. cond_both (letter 76 b && c) _ _ KeyedSign (λ _. tt)
    (λ _. cond_both (letter 90 b && c) _ _ KeyedSign (λ _. tt)
    (λ _. cond_both (letter 83 b) _ _ KeyedSign (λ _. tt)
    (λ _. cond_both (letter 76 b) _ _ KeyedSign (λ _. tt)
    (λ _. cond_both (letter 90 b) _ _ KeyedSign (λ _. tt)
    (λ _. cond_both (eqb b 91) _ _ KeyedSign (λ _. tt)
    (λ _. cond_both (eqb b 40) _ _ KeyedSign (λ _. tt)
    (λ _. cond_both (eqb b 41) _ _ KeyedSign (λ _. tt)
    (λ _. cond_both (eqb b 124) _ _ KeyedSign (λ _. tt)
    (λ _. cond_both (eqb b 46) _ _ KeyedSign (λ _. tt)
    (λ _. tt)))))))))))))))

choice_keyed : {u : List Token} {k : ℕ} → Choice u k → Keyed k
choice_keyed (g.single b c o k e) = subst KeyedSign e (sign_keyed b c)
choice_keyed (g.set {m = m} {n = n} c o x y d p) =
    let h = member_keyed y in (or_above m n h.0, or_below m n (members_below x) h.1)

placed_keyed : {u : List Token} {k : ℕ} {l : Bool} → Placed u k l → Keyed k
placed_keyed (g.plain x) = choice_keyed x
placed_keyed (g.long b c o e x) = choice_keyed x

places_push : (ns : List Node) (n : Node) → Places ns → Place n.awaits → Places (ns ++ n ∷ [])
places_push [] n h p = (p, tt)
places_push (m ∷ ns) n h p = (h.0, places_push ns n h.1 p)

place_dot : (p : Option Position) → Place p → Place (with_dot_lem p)
place_dot (Some p) h = h
place_dot None h = h

places_dot : (ns : List Node) → Places ns → Places (dot_last_lem ns)
places_dot [] h = h
places_dot (n ∷ []) h = (place_dot n.awaits h.0, tt)
places_dot (n ∷ m ∷ ns) h = (h.0, places_dot (m ∷ ns) h.1)

-- elements have no end among their places
pub places : {u : List Token} {ns : List Node} {m : Mark} {e : Final} → Elements u ns m e → Places ns
places g.none = tt
places (g.mark_more x b c o k e) = places x
places (g.place_more {ns = ns} x y) = places_push ns _ (places x) (placed_keyed y)
places (g.dot_more {ns = ns} x c o) = places_dot ns (places x)
