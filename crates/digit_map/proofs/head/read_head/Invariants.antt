use Rattle.std.proofs.Common.{◌≡◌, ◌-◌, length}
use Rattle.digit_map.specs.Fields.{least_behind}
use Rattle.digit_map.proofs.HeadRuns.{HeadUpTo}
use Rattle.digit_map.proofs.head.read_head.Given as goal

abbrev pub invariant-fields : goal.invariant-fields
invariant-fields l = record {
  text : l.reader.text.now ≡ l.text;
  base : l.reader.base ≡ 0;
  head : HeadUpTo l.text l.timers (least_behind l.last) l.reader.cursor;
}

abbrev pub decreases-fields : goal.decreases-fields
decreases-fields l = length l.text - l.reader.cursor.at
