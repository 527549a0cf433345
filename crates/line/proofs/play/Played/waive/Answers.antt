-- A waiving by plain numbers. Assumes nothing.
use Rattle.std.proofs.Common.{Err, sym, refl, ap, ◌∙◌}
use Rattle.std.proofs.lemmas.Result.{err_from_is_err_and}
use Rattle.key_record.specs.declared.call.Call.TheVariants.{Waive}
use Rattle.line.proofs.Calling.{called_quietly, settled_ok, settled_err}
use Rattle.line.proofs.play.Played.waive.Goals as goal

pub returns : goal.returns
returns g c =
    let e = settled_ok c.waive.result _ _ c.in_ok-map_err.was c.map_err.ensures.cases in
    called_quietly g.P.Plan.whole g.P.Plan.rest c.args.self.now _ _ _ _ c.waive.new.self
    (ap Waive (sym c.with.ensures)) refl tt (rw e at c.waive.ensures.does)

pub returns-in_err-map_err : goal.returns-in_err-map_err
returns-in_err-map_err g c =
    let p = err_from_is_err_and c.from_residual.result c.from_residual.ensures.1 in
    let e = settled_err c.waive.result _ _ c.in_err-map_err.was c.map_err.ensures.cases in
    called_quietly g.P.Plan.whole g.P.Plan.rest c.args.self.now _ _ _ _ c.waive.new.self
    (ap Waive (sym c.with.ensures)) (p.1 ∙ ap Err p.2) tt (rw e.1 at c.waive.ensures.does)
