-- The places of a map: their counts, one more place, a dot behind the last. Assumes nothing.
use Rattle.std.proofs.Common.{◌≡◌, ℕ, ◌+◌, ◌-◌, ◌<◌, List, [], ◌∷◌, ◌++◌, length, slice_get, unwrap_or, take, set, zero, suc, Some, None, Option, sym, refl, ap, ◌∙◌, arith}
use Rattle.std.proofs.lemmas.List.{take_all, length_push}
use Rattle.std.proofs.lemmas.Option.{slice_get_within, slice_get-get_or}
use Rattle.digit_map.specs.declared.node.Position.{Position}
use Rattle.digit_map.specs.declared.node.Node.{Node}
use Rattle.digit_map.proofs.NodeLaws.{positions-++, ends-++}
use Rattle.digit_map.specs.Nodes.{some_position, no_position, count_positions, count_ends, with_dot_lem}
use Rattle.digit_map.specs.Nodes.{dotted_node, dot_last_lem}

position_or_end : (o : Option Position) → some_position o + no_position o ≡ 1
position_or_end (Some p) = refl
position_or_end None = refl

-- each place is a position or an end
pub counts_add : (ns : List Node) → count_positions ns + count_ends ns ≡ length ns
counts_add [] = refl
counts_add (n ∷ ns) = let h = counts_add ns in let k = position_or_end n.awaits in omega arith

pub positions_push : (ns : List Node) (n : Node) →
    count_positions (ns ++ n ∷ []) ≡ count_positions ns + some_position n.awaits
positions_push ns n = let h = positions-++ ns (n ∷ []) in omega arith

pub ends_push : (ns : List Node) (n : Node) →
    count_ends (ns ++ n ∷ []) ≡ count_ends ns + no_position n.awaits
ends_push ns n = let h = ends-++ ns (n ∷ []) in omega arith

-- there is room for one place more
pub pushed : (ns : List Node) (n : Node) → count_positions ns + count_ends ns < 320 →
    take 320 (ns ++ n ∷ []) ≡ ns ++ n ∷ []
pushed ns n h =
    let k = counts_add ns in let l = length_push ns n in take_all 320 (ns ++ n ∷ []) (omega arith)

-- a place that awaits something else
abbrev pub awaits_now : Node → Option Position → Node
awaits_now n o = record { awaits = o; mark = n.mark; marked = n.marked }

dots_at : (ns : List Node) (i : ℕ) (n : Node) (o : Option Position) → o ≡ with_dot_lem n.awaits →
    slice_get ns i ≡ Some n → i + 1 ≡ length ns → set ns i (awaits_now n o) ≡ dot_last_lem ns
dots_at [] i n o e g h = absurd (omega arith)
dots_at (x ∷ []) zero n o e g h =
    ap (λ a. awaits_now n a ∷ []) e ∙ ap (λ y. dotted_node y ∷ []) (sym (ap (λ r. unwrap_or r n) g))
dots_at (x ∷ []) (suc i) n o e g h = absurd (omega arith)
dots_at (x ∷ y ∷ ns) zero n o e g h = absurd (omega arith)
dots_at (x ∷ y ∷ ns) (suc i) n o e g h = ap (λ r. x ∷ r) (dots_at (y ∷ ns) i n o e g (omega arith))

pub dots_last : (ns : List Node) (i : ℕ) (n : Node) (o : Option Position) → o ≡ with_dot_lem n.awaits →
    slice_get ns i ≡ Some n → i ≡ length ns - 1 → set ns i (awaits_now n o) ≡ dot_last_lem ns
dots_last ns i n o e g h = let l = slice_get_within ns i n g in dots_at ns i n o e g (omega arith)

-- with no last place there is nothing to change
pub dots_none : (ns : List Node) (i : ℕ) → slice_get ns i ≡ None → i ≡ length ns - 1 → dot_last_lem ns ≡ ns
dots_none [] i g h = refl
dots_none (x ∷ ns) i g h = let s = slice_get-get_or (x ∷ ns) i x (omega arith) in let z = sym s ∙ g in cc
