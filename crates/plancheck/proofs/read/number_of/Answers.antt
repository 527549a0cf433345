-- A letter is a digit more, or no number is written. Assumes nothing.
use Rattle.std.proofs.Common.{◌≡◌, ℕ, None, Option, sym, subst, arith, MatchOption}
use Rattle.plancheck.specs.Numbers.{Decimal}
use Rattle.plancheck.proofs.Numbers.{reading_digit, reading_refused}
use Rattle.plancheck.proofs.read.number_of.Goals as goal

pub returns-in_err-number : goal.returns-in_err-number
returns-in_err-number c =
    let word = c.args.word.now in
    let gone : c.from_residual.result ≡ None = grind arith in
    subst (λ (o : Option ℕ). MatchOption o ((n : ℕ) → Decimal word n → ⊥) (λ n. Decimal word n)) (sym gone)
    (reading_refused word c.loop-letter.letter-index c.loop-letter.number c.loop-letter-test.true
    c.in_err-number.ensures c.loop-letter.invariant)

pub loop-letter-preserved : goal.loop-letter-preserved
loop-letter-preserved c =
    reading_digit c.args.word.now c.loop-letter.letter-index c.loop-letter.number c.loop-letter-test.true
    c.in_ok-number.number c.in_ok-number.ensures c.loop-letter.invariant
