-- A turn names one symbol more, and the two loops name all. Assumes nothing.
use Rattle.std.proofs.Common.{◌≡◌, ℕ, List, ◌++◌, map, string_bytes, sym, ap, subst, ◌∙◌, append_assoc, arith}
use Rattle.std.specs.List.{range_with_len}
use Rattle.std.proofs.lemmas.List.FromFn.{map-range_with_len_more}
use Rattle.keypad.specs.declared.key.Symbol.{Symbol}
use Rattle.keypad.specs.declared.key.Symbol.TheVariants.{Plain, Long}
use Rattle.plan_report.specs.Listings.{Listed, symbols}
use Rattle.plan_report.proofs.Listings.{listed_more}
use Rattle.plan_report.proofs.next.open_names.Goals as goal

pub plain-preserved : goal.plain-preserved
plain-preserved g c =
    let added = c.in_ok-write_if_open.ensures in
    let key = c.plain.key in
    listed_more (g.P.Plan.rest c.args.plan.now) _ _ (Plain key) _ _ added.0 c.plain.invariant added.1 added.2
    (map-range_with_len_more Plain 0 key key (omega arith))

pub long-preserved : goal.long-preserved
long-preserved g c =
    let added = c.in_ok-write_if_open-2.ensures in
    let key = c.long.key in
    let plain : List Symbol = map Plain (range_with_len 0 16) in
    let long : List Symbol = map Long (range_with_len 0 key) in
    let more = map-range_with_len_more Long 0 key key (omega arith) in
    listed_more (g.P.Plan.rest c.args.plan.now) (plain ++ long) _ (Long key) _ _ added.0 c.long.invariant added.1
    added.2 (ap (λ (ss : List Symbol). plain ++ ss) more ∙ sym (append_assoc plain long _))

pub returns : goal.returns
unfolding symbols
returns g c =
    let plain : List Symbol = map Plain (range_with_len 0 16) in
    let all : c.long.key ≡ 16 = omega arith in
    subst (λ (n : ℕ). Listed (g.P.Plan.rest c.args.plan.now) (plain ++ map Long (range_with_len 0 n))
    (string_bytes c.long.names)) all c.long.invariant
