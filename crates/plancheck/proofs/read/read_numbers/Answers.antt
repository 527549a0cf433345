-- Each word between the blanks is a number, or the text is none of numbers. Assumes nothing.
use Rattle.std.proofs.Common.{ℕ, ◌+◌, eqb, List, length, take, vec_items, sym, subst, arith, rules, tests}
use Rattle.std.proofs.lemmas.Iterator.Consumers.{YieldsList-at, YieldsList-turn, YieldsList-end}
use Rattle.std.proofs.lemmas.Iterator.Splits.{YieldsList-from_slice_split}
use Rattle.std.proofs.lemmas.List.{length_push}
use Rattle.std.specs.List.{AllZip}
use Rattle.plancheck.specs.Numbers.{Decimal}
use Rattle.plancheck.proofs.Numbers.{words, words_more, words_refused, words_all}
use Rattle.plancheck.proofs.read.read_numbers.Goals as goal

pub returns-in_default : goal.returns-in_default
returns-in_default c =
    let text = c.args.text.now in
    let turn = YieldsList-turn (YieldsList-at c.into_iter-word-iterator.ensures.into_iter_gives
    (YieldsList-from_slice_split _ (λ b. eqb b 32) text c.split-word-items.ensures.rest c.split-word-items.ensures.done
    c.split-word-items.ensures.closure (λ x r q k. search (rules, tests))))
    c.loop-word.yielded _ c.loop-word.yielded_by _ _ c.in-Some.word c.in-Some.is c.next.ensures.steps in
    words_refused text (length c.loop-word.yielded) c.in-Some.word.now turn c.in_default.ensures

pub loop-word-preserved : goal.loop-word-preserved
loop-word-preserved c =
    let text = c.args.text.now in
    let turn = YieldsList-turn (YieldsList-at c.into_iter-word-iterator.ensures.into_iter_gives
    (YieldsList-from_slice_split _ (λ b. eqb b 32) text c.split-word-items.ensures.rest c.split-word-items.ensures.done
    c.split-word-items.ensures.closure (λ x r q k. search (rules, tests))))
    c.loop-word.yielded _ c.loop-word.yielded_by _ _ c.in-Some.word c.in-Some.is c.next.ensures.steps in
    subst (λ i. AllZip Decimal (take i (words text)) (vec_items c.push.new.self))
    (sym (length_push c.loop-word.yielded c.in-Some.word))
    (subst (λ (ns : List ℕ). AllZip Decimal (take (length c.loop-word.yielded + 1) (words text)) ns)
    (sym c.in_ok-push.ensures.items)
    (words_more text (length c.loop-word.yielded) c.in-Some.word.now turn (vec_items c.loop-word.numbers)
    c.in-Some-number_of.number c.in-Some-number_of.ensures c.loop-word.invariant))

pub returns : goal.returns
returns c =
    let text = c.args.text.now in
    let end = YieldsList-end (YieldsList-at c.into_iter-word-iterator.ensures.into_iter_gives
    (YieldsList-from_slice_split _ (λ b. eqb b 32) text c.split-word-items.ensures.rest c.split-word-items.ensures.done
    c.split-word-items.ensures.closure (λ x r q k. search (rules, tests))))
    c.loop-word.yielded _ c.loop-word.yielded_by _ _ c.in-None.is c.next.ensures.steps in
    words_all text (vec_items c.loop-word.numbers) (length c.loop-word.yielded) (omega (arith, end.1))
    c.loop-word.invariant
