-- A symbol more is read, and at the end nothing is left or no symbol begins it. Assumes nothing.
use Rattle.std.proofs.Common.{List, vec_items, sym, subst}
use Rattle.keypad.specs.declared.key.Symbol.{Symbol}
use Rattle.plancheck.proofs.Rows.{RowReading, reading_symbol, reading_end}
use Rattle.plancheck.proofs.read.read_row.Goals as goal

pub loop-symbol-preserved : goal.loop-symbol-preserved
loop-symbol-preserved c =
    let text = c.args.text.now in
    let row : List Symbol = vec_items c.loop-symbol.row in
    subst (λ (ss : List Symbol). RowReading text c.in-Some.after.now ss)
    (sym c.in_ok-push.ensures.items)
    (reading_symbol text c.loop-symbol.rest.now row c.in-Some.symbol c.in-Some.after.now c.in-Some.ensures
    c.loop-symbol.invariant)

pub returns : goal.returns
returns c =
    reading_end c.args.text.now (λ v. vec_items v) c.loop-symbol.rest.now c.loop-symbol.row c.is_empty.result
    c.then_some.result c.then_some.ensures c.is_empty.ensures c.in_default.ensures c.loop-symbol.invariant
