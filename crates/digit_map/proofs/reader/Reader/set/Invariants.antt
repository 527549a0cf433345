use Rattle.std.proofs.Common.{◌-◌, length}
use Rattle.digit_map.specs.Readers.{SamePart}
use Rattle.digit_map.proofs.SetRuns.{SetUpTo}
use Rattle.digit_map.proofs.reader.Reader.set.Given as goal

abbrev pub invariant-bytes : goal.invariant-bytes
invariant-bytes l = record {
  same : SamePart l.initial.self l.self;
  set : SetUpTo l.initial.self.text.now l.initial.self.base l.initial.self.cursor l.opened l.alternative
      l.self.cursor l.place l.keys;
}

abbrev pub decreases-bytes : goal.decreases-bytes
decreases-bytes l = length l.self.text.now - l.self.cursor.at
