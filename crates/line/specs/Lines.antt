-- What a line holds beside its plan. Assumes nothing.
use Rattle.key_record.specs.States.{State}
use Rattle.line_parts.specs.Dialled.{dialled}
use Rattle.line_parts.specs.Queued.{queued}
use Rattle.line.specs.declared.line.Line.{Line}

abbrev pub state_of : {X : Type 0} → Line X → State
state_of l = record {
  number = l.number;
  phase = l.phase;
  settings = l.settings;
  dial = dialled l.dial;
  ahead = queued l.ahead;
  count = l.count;
}
