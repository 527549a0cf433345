-- The keys ahead, the oldest first. Assumes nothing.
use Rattle.std.specs.Prelude.{List}
use Rattle.keypad.specs.declared.key.KeyEvent.{KeyEvent}
use Rattle.keypad.specs.Rows.{listed}
use Rattle.line_parts.specs.declared.ahead.Ahead.{Ahead}

abbrev pub queued : Ahead → List KeyEvent
queued a = listed a.events
