use Rattle.std.proofs.Common.{◌-◌, length}
use Rattle.digit_map.specs.Readers.{SamePart}
use Rattle.digit_map.proofs.HeadRuns.{FieldUpTo}
use Rattle.digit_map.proofs.reader.Reader.field.Given as goal

abbrev pub invariant-bytes : goal.invariant-bytes
invariant-bytes l = record {
  same : SamePart l.initial.self l.self;
  field : FieldUpTo l.initial.self.text.now l.initial.self.base l.initial.self.cursor l.field l.letter
      l.self.cursor l.digits;
}

abbrev pub decreases-bytes : goal.decreases-bytes
decreases-bytes l = length l.self.text.now - l.self.cursor.at
