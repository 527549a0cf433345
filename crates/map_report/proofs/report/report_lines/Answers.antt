-- A turn tells the first line of the rest, and none is left at the end. Assumes nothing.
use Rattle.std.proofs.Common.{◌≡◌, ℕ, List, [], ◌++◌, string_bytes, sym, refl, subst}
use Rattle.std.proofs.lemmas.List.{append-nil}
use Rattle.map_report.specs.Lines.{lines}
use Rattle.map_report.specs.Reports.{AllReported}
use Rattle.map_report.proofs.Reports.{told_more}
use Rattle.map_report.proofs.report.report_lines.Goals as goal

pub loop-line-preserved : goal.loop-line-preserved
loop-line-preserved c =
    let out = string_bytes c.loop-line.out in
    let told = string_bytes c.in_ok-told.told in
    let grown : string_bytes c.push_str.new.self ≡ out ++ told =
    cc (c.in_ok-push_str.ensures.bytes, c.as_str.ensures.value) in
    told_more _ _ _ _ _ _ _ c.loop-line.invariant c.in-Some.ensures.split
    c.in_ok-told.ensures grown

pub returns : goal.returns
returns c =
    let none = subst (λ (bs : List ℕ). AllReported (lines bs) []) (sym c.in_default.ensures) refl in
    rw append-nil at (c.loop-line.invariant [] none)
