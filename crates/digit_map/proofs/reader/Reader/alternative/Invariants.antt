-- What the loop over the signs of an alternative keeps. Assumes nothing.
use Rattle.std.proofs.Common.{◌-◌, length}
use Rattle.digit_map.specs.Readers.{SamePart}
use Rattle.digit_map.proofs.Acting.{AlternativeUpTo}
use Rattle.digit_map.proofs.reader.Reader.alternative.Given as goal

abbrev pub invariant-signs : goal.invariant-signs
invariant-signs l = record {
  same : SamePart l.initial.self l.self;
  read : AlternativeUpTo l.initial.self.text.now l.initial.self.base l.initial.self.cursor l.frame
      l.initial.draft l.self.cursor l.draft l.progress;
}

abbrev pub decreases-signs : goal.decreases-signs
decreases-signs l = length l.self.text.now - l.self.cursor.at
