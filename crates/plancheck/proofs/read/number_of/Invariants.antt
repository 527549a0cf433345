-- What has been read of a word. Assumes nothing.
use Rattle.plancheck.proofs.Numbers.{WordReading}
use Rattle.plancheck.proofs.read.number_of.Given as goal

-- the letters passed are the digits of the number
abbrev pub invariant-loop-letter : goal.invariant-loop-letter
invariant-loop-letter l = WordReading l.word l.letter-index l.number
