-- What the loop over the alternatives keeps. Assumes nothing.
use Rattle.std.proofs.Common.{◌≡◌, ◌-◌}
use Rattle.digit_map.proofs.Alternatives.{AlternativesUpTo}
use Rattle.digit_map.proofs.alternative.read_alternatives.Given as goal

abbrev pub invariant-alternatives : goal.invariant-alternatives
invariant-alternatives l = record {
  text : l.reader.text.now ≡ l.text;
  base : l.reader.base ≡ l.base;
  read : AlternativesUpTo l.text l.base l.loose l.initial.draft l.frame l.reader.cursor l.draft;
}

abbrev pub decreases-alternatives : goal.decreases-alternatives
decreases-alternatives l = 65 - l.frame.number
