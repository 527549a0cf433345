-- A turn tells one item more, and the last leaves none. Assumes nothing.
use Rattle.std.proofs.Common.{ℕ, List, ◌++◌, vec_items, refl, ap, ◌∙◌}
use Rattle.std.proofs.lemmas.Fn.{says_at}
use Rattle.play_report.proofs.Told.{upto_more, upto_all}
use Rattle.play_report.proofs.tell.add_each.Goals as goal

pub loop-item-preserved : goal.loop-item-preserved
loop-item-preserved g c words tells =
    let before = vec_items c.loop-item.out in
    let told = tells _ c.text.result (says_at g.F.Fn c.text.ensures refl) ∙ ap words c.item-item.is in
    upto_more words c.args.items.now (vec_items c.args.out.now) before _ c.loop-item.item-index
    c.item-item.result c.loop-item-test.true (c.loop-item.invariant words tells)
    (c.in_ok-add_text.ensures refl ∙ ap (λ (l : List ℕ). before ++ l) told)

pub returns : goal.returns
returns g c words tells ok =
    upto_all words c.args.items.now (vec_items c.args.out.now) (vec_items c.loop-item.out)
    c.loop-item.item-index c.loop-item-test.false (c.loop-item.invariant words tells)
