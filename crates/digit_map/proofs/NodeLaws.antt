-- Laws of the places of alternatives. Assumes nothing.
use Rattle.std.proofs.Common.{◌≡◌, ◌+◌, Bool, true, false, ◌||◌, List, [], ◌∷◌, ◌++◌, Some, None, Option, sym, refl, ap, ◌∙◌, add_assoc, zero-add}
use Rattle.digit_map.specs.declared.node.Position.{Position}
use Rattle.digit_map.specs.declared.node.Node.{Node}
use Rattle.digit_map.specs.Nodes.{some_position, no_position, count_positions, count_ends, with_dot_lem}
use Rattle.digit_map.specs.Nodes.{dot_last_lem, needed, needs_key}

-- a list with something in it
abbrev pub Filled : {A : Type 0} → List A → Type 0
Filled [] = ⊥
Filled (x ∷ xs) = Unit {0}

pub filled_push : {A : Type 0} (xs : List A) (y : A) (ys : List A) → Filled (xs ++ y ∷ ys)
filled_push [] y ys = tt
filled_push (x ∷ xs) y ys = tt

pub positions-++ : (a b : List Node) → count_positions (a ++ b) ≡ count_positions a + count_positions b
positions-++ [] b = sym (zero-add (count_positions b))
positions-++ (n ∷ a) b = ap (λ k. some_position n.awaits + k) (positions-++ a b)
    ∙ sym (add_assoc (some_position n.awaits) (count_positions a) (count_positions b))

pub ends-++ : (a b : List Node) → count_ends (a ++ b) ≡ count_ends a + count_ends b
ends-++ [] b = sym (zero-add (count_ends b))
ends-++ (n ∷ a) b = ap (λ k. no_position n.awaits + k) (ends-++ a b)
    ∙ sym (add_assoc (no_position n.awaits) (count_ends a) (count_ends b))

or_assoc : (x y z : Bool) → (x || (y || z)) ≡ ((x || y) || z)
or_assoc true y z = refl
or_assoc false y z = refl

pub needs-++ : (a b : List Node) → needs_key (a ++ b) ≡ (needs_key a || needs_key b)
needs-++ [] b = refl
needs-++ (n ∷ a) b = ap (λ x. needed n.awaits || x) (needs-++ a b)
    ∙ or_assoc (needed n.awaits) (needs_key a) (needs_key b)

pub dot_last-++ : (a b : List Node) → Filled b → dot_last_lem (a ++ b) ≡ a ++ dot_last_lem b
dot_last-++ [] b h = refl
dot_last-++ (n ∷ a) [] h = absurd h
dot_last-++ (n ∷ []) (m ∷ b) h = refl
dot_last-++ (n ∷ m ∷ a) (k ∷ b) h = ap (λ x. n ∷ x) (dot_last-++ (m ∷ a) (k ∷ b) tt)

some_with_dot : (p : Option Position) → some_position (with_dot_lem p) ≡ some_position p
some_with_dot (Some p) = refl
some_with_dot None = refl

no_with_dot : (p : Option Position) → no_position (with_dot_lem p) ≡ no_position p
no_with_dot (Some p) = refl
no_with_dot None = refl

pub positions_dot_last : (ns : List Node) → count_positions (dot_last_lem ns) ≡ count_positions ns
positions_dot_last [] = refl
positions_dot_last (n ∷ []) = ap (λ k. k + 0) (some_with_dot n.awaits)
positions_dot_last (n ∷ m ∷ ns) = ap (λ k. some_position n.awaits + k) (positions_dot_last (m ∷ ns))

pub ends_dot_last : (ns : List Node) → count_ends (dot_last_lem ns) ≡ count_ends ns
ends_dot_last [] = refl
ends_dot_last (n ∷ []) = ap (λ k. k + 0) (no_with_dot n.awaits)
ends_dot_last (n ∷ m ∷ ns) = ap (λ k. no_position n.awaits + k) (ends_dot_last (m ∷ ns))
