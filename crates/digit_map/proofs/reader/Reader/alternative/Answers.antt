-- Each turn of the loop that adds to the map, and the exits behind an act. Assumes nothing.
use Rattle.std.proofs.Common.{Ok}
use Rattle.digit_map.specs.Reads.{SetRead}
use Rattle.digit_map.proofs.Readers.{joined, by_part, next_by_part}
use Rattle.digit_map.proofs.Acting as acting
use Rattle.digit_map.proofs.reader.Reader.alternative.Goals as goal

pub signs-preserved-in-Put : goal.signs-preserved-in-Put
signs-preserved-in-Put c =
    let i = c.signs.invariant in
    let e = rw c.in-Put.is at c.in_ok-turn.ensures.value in
    let h = rw c.in-Put.is at c.in_ok-turn.ensures.room in
    record {
      same = joined i.same c.next.ensures.same;
      read = acting.alternative_put i.read (next_by_part i.same c.next.ensures.reads) c.in_ok-sign.ensures
          c.positions.ensures e h c.put.ensures.places c.put.ensures.timers;
    }

pub signs-preserved-in-AddDot : goal.signs-preserved-in-AddDot
signs-preserved-in-AddDot c =
    let i = c.signs.invariant in
    let e = rw c.in-AddDot.is at c.in_ok-turn.ensures.value in
    let h = rw c.in-AddDot.is at c.in_ok-turn.ensures.room in
    record {
      same = joined i.same c.next.ensures.same;
      read = acting.alternative_dot i.read (next_by_part i.same c.next.ensures.reads) c.in_ok-sign.ensures
          c.positions.ensures e h c.dot_last.ensures.places c.dot_last.ensures.timers;
    }

pub signs-preserved : goal.signs-preserved
signs-preserved c =
    let i = c.signs.invariant in
    let e = rw c.in-OpenSet.is at c.in_ok-turn.ensures.value in
    let h = rw c.in-OpenSet.is at c.in_ok-turn.ensures.room in
    let k = c.in_ok-keys-in-OpenSet in
    let here = joined i.same c.next.ensures.same in
    let n = c.next.new.self.cursor in
    let d = c.set.new.self.cursor in
    record {
      same = joined here k.ensures.same;
      read = rw c.go_on-progress.ensures
          (acting.alternative_set i.read (next_by_part i.same c.next.ensures.reads) c.in_ok-sign.ensures
          c.positions.ensures k.keys d e
          (by_part here (λ t b. SetRead t b n c.in_ok-sign.at c.args.frame.number (Ok (k.keys, d)))
          k.ensures.reads)
          h (rw c.of.ensures at c.put-in-OpenSet.ensures.places) c.put-in-OpenSet.ensures.timers);
    }

pub returns-in-Halt-clause-reads : goal.returns-in-Halt-clause-reads
returns-in-Halt-clause-reads c =
    let i = c.signs.invariant in
    let e = rw c.in-Halt.is at c.in_ok-turn.ensures.value in
    let h = rw c.in-Halt.is at c.in_ok-turn.ensures.room in
    acting.alternative_halt i.read (next_by_part i.same c.next.ensures.reads) c.in_ok-sign.ensures
    c.positions.ensures c.end.new.self e h c.end.ensures.places c.end.ensures.timers

pub returns-in-Halt-clause-room : goal.returns-in-Halt-clause-room
returns-in-Halt-clause-room c =
    acting.few_behind c.signs.invariant.read c.end.new.self c.end.ensures.places

pub returns-in_err-turn-clause-room : goal.returns-in_err-turn-clause-room
returns-in_err-turn-clause-room c = acting.few_before c.signs.invariant.read
