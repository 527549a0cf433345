-- A claim, noted by its plain numbers. Assumes nothing.
use Rattle.std.proofs.Common.{Ok, Err, refl, ap, ◌∙◌}
use Rattle.std.proofs.lemmas.Result.{err_from_is_err_and}
use Rattle.key_record.specs.declared.answer.Answer.TheVariants.{Claimed}
use Rattle.line.proofs.Calling.{called_quietly}
use Rattle.line.proofs.play.Played.claim.Goals as goal

pub returns : goal.returns
returns g c =
    called_quietly g.P.Plan.whole g.P.Plan.rest c.args.self.now _ _ _ _ c.claim.new.self
    refl (ap (λ n. Ok (Claimed n)) c.spend.ensures) tt c.in_ok-receipt.ensures

pub returns-in_err-receipt : goal.returns-in_err-receipt
returns-in_err-receipt g c =
    let p = err_from_is_err_and c.from_residual.result c.from_residual.ensures.1 in
    called_quietly g.P.Plan.whole g.P.Plan.rest c.args.self.now _ _ _ _ c.claim.new.self
    refl (p.1 ∙ ap Err p.2) tt c.in_err-receipt.ensures
