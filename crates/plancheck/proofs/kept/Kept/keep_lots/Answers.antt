-- The width and the lots are kept, or a question mark is told. Assumes nothing.
use Rattle.std.proofs.Common.{ℕ, ◌<◌, List, ◌∷◌, vec_items, sym, refl, subst, arith}
use Rattle.std.proofs.lemmas.Option.{MatchOption-at_some, MatchOption-at_none}
use Rattle.plancheck.specs.Numbers.{Numbers}
use Rattle.plancheck.specs.Replies.{question, LotsLine, listed, wide, unread}
use Rattle.plancheck.specs.Stores.{store_of}
use Rattle.plancheck.proofs.Numbers.{numbers_parts}
use Rattle.plancheck.proofs.Replies.{replied, gives_told}
use Rattle.plancheck.proofs.kept.Kept.keep_lots.Goals as goal

pub returns-in_default-clause-gives : goal.returns-in_default-clause-gives
returns-in_default-clause-gives c =
    gives_told (LotsLine (store_of c.args.self.now) c.args.text.now) c.args.self.now question
    c.unknown.result c.unknown.ensures
    (unread (MatchOption-at_none ((ns : List ℕ) → Numbers c.args.text.now ns → ⊥) _ c.in_default.is
    c.in_ok-numbers.ensures))

pub returns-in_default-try_from-clause-gives : goal.returns-in_default-try_from-clause-gives
returns-in_default-try_from-clause-gives c =
    let text = c.args.text.now in
    let numbers = MatchOption-at_some _ (λ v. Numbers text (vec_items v)) c.in-Some.numbers c.in-Some.is
    c.in_ok-numbers.ensures in
    let read : List ℕ = vec_items c.in-Some.numbers in
    gives_told (LotsLine (store_of c.args.self.now) text) c.args.self.now question
    c.unknown-in_default-try_from.result c.unknown-in_default-try_from.ensures
    (wide c.remove.result (vec_items c.remove.new.self)
    (numbers_parts text read _ c.remove.result numbers c.remove.ensures.value
    c.remove.ensures.items)
    (omega (arith, c.in_default-try_from.ensures)))

pub returns-clause-gives : goal.returns-clause-gives
returns-clause-gives c =
    let text = c.args.text.now in
    let numbers = MatchOption-at_some _ (λ v. Numbers text (vec_items v)) c.in-Some.numbers c.in-Some.is
    c.in_ok-numbers.ensures in
    let read : List ℕ = vec_items c.in-Some.numbers in
    let lots : List ℕ = vec_items c.remove.new.self in
    let width = c.in-Ok.ensures.1 in
    replied (LotsLine (store_of c.args.self.now) text) _ _ _ _ c.new.ensures.bytes refl
    (listed c.in-Ok.width lots
    (subst (λ w. Numbers text (w ∷ lots)) (sym width)
    (numbers_parts text read _ c.remove.result numbers c.remove.ensures.value
    c.remove.ensures.items))
    (subst (λ w. w < 256) (sym width) c.in-Ok.ensures.0))
