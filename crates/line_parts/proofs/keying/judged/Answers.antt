-- No press ends an entry that is not satisfied or that goes on. Assumes nothing.
use Rattle.std.proofs.Common.{Bool, true, false, not, refl}
use Rattle.std.specs.Bool.{then_some}
use Rattle.key_record.specs.declared.ending.Method.TheVariants.{Unambiguous}
use Rattle.key_record.specs.declared.settings.Procedure.TheVariants.{Base}
use Rattle.key_record.specs.Keying.{Judged}
use Rattle.keypad.proofs.Sames.{clash}
use Rattle.keypad.specs.Answers.{Tells}
use Rattle.keypad.specs.Entries.{Entries}
use Rattle.keypad.specs.Sets.{Ended, GoesOn}
use Rattle.line_parts.proofs.keying.judged.Goals as goal
use Rattle.line_parts.proofs.keying.judged.Goals.{then-satisfied, else-satisfied}

satisfied : (a : Entries) (on : Bool) → ∥ Ended a ∥₁ → Tells (GoesOn a) on →
    Judged Base a (then_some (not on) Unambiguous)
satisfied a true ended on = λ _ ends. clash on ends
satisfied a false ended ends = (refl, ended, ends)

pub returns-after-satisfied : goal.returns-after-satisfied
returns-after-satisfied g c =
    let a = g.P.Plan.rest c.args.plan.now in
    let over : Judged Base a (then_some c.if-satisfied.then_some Unambiguous) = elim c.if-satisfied.branch [
      | then-satisfied w ↦
          rw w.then_some-is (satisfied a w.goes_on.result w.if-satisfied.ensures w.goes_on.ensures)
      | else-satisfied w ↦ rw (w.then_some-is, w.if-satisfied.false) (λ ended _. w.if-satisfied.ensures ended)
    ] in
    rw (c.in-Base.is, c.then_some.ensures) over
