-- A turn tells one key more, and the last leaves none. Assumes nothing.
use Rattle.std.proofs.Common.{◌≡◌, ◌+◌, List, [], ◌++◌, drop, string_bytes, sym, refl, subst}
use Rattle.keypad.proofs.Sames.{same_trans}
use Rattle.keypad.specs.Entries.{Entries}
use Rattle.keypad.specs.declared.key.Symbol.{Symbol}
use Rattle.std.proofs.lemmas.List.{append-nil, drop_more, drop_all}
use Rattle.plan_report.specs.Rows.{RowTold}
use Rattle.plan_report.proofs.Rows.{row_same, row_more}
use Rattle.plan_report.proofs.key.tell_row.Goals as goal

pub loop-symbol-preserved : goal.loop-symbol-preserved
loop-symbol-preserved g c =
    let row = c.args.row.now in
    let at = c.loop-symbol.symbol-index in
    let out = string_bytes c.loop-symbol.out in
    let line = string_bytes c.in_ok-line.line in
    let before : Entries = g.P.Plan.rest c.loop-symbol.plan in
    let after : Entries = g.P.Plan.rest c.tell_key.new.plan in
    let grown : string_bytes c.push_str.new.self ≡ out ++ line =
    cc (c.in_ok-push_str.ensures.bytes, c.as_str.ensures.value) in (
      same_trans (g.P.Plan.whole c.tell_key.new.plan) (g.P.Plan.whole c.loop-symbol.plan)
          (g.P.Plan.whole c.rewind.new.self) c.tell_key.ensures.whole c.loop-symbol.invariant.0,
      row_more (g.P.Plan.rest c.rewind.new.self) row before after out
          (string_bytes c.push_str.new.self) line (drop at row) (drop (at + 1) row) _
          c.loop-symbol.invariant.1
          (drop_more row at _ c.loop-symbol-test.true) c.in_ok-line.ensures.told grown,
    )

pub returns : goal.returns
returns g c =
    let row = c.args.row.now in
    let at = c.loop-symbol.symbol-index in
    let rewound : Entries = g.P.Plan.rest c.rewind.new.self in
    let left : Entries = g.P.Plan.rest c.loop-symbol.plan in
    let whole : Entries = g.P.Plan.whole c.args.plan.now in
    let none : drop at row ≡ [] = drop_all at row c.loop-symbol-test.false in
    let told = c.loop-symbol.invariant.1 [] (subst (λ (ss : List Symbol). RowTold left ss []) (sym none) refl) in
    record {
      whole = same_trans (g.P.Plan.whole c.loop-symbol.plan) (g.P.Plan.whole c.rewind.new.self)
          whole c.loop-symbol.invariant.0 c.rewind.ensures.whole;
      told = row_same rewound whole row (string_bytes c.loop-symbol.out) c.rewind.ensures.rest
          (rw append-nil at told);
    }
