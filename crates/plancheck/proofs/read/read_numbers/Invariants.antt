-- What has been read of a text of numbers. Assumes nothing.
use Rattle.std.proofs.Common.{length, take, vec_items}
use Rattle.std.specs.List.{AllZip}
use Rattle.plancheck.specs.Numbers.{Decimal}
use Rattle.plancheck.proofs.Numbers.{words}
use Rattle.plancheck.proofs.read.read_numbers.Given as goal

-- the words passed are the numbers
abbrev pub invariant-loop-word : goal.invariant-loop-word
invariant-loop-word l = AllZip Decimal (take (length l.yielded) (words l.text)) (vec_items l.numbers)
