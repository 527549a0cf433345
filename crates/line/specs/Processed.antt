-- One key fed to the entry of a line. Assumes nothing.
use Rattle.std.specs.Prelude.{◌≡◌, ◌+◌, Bool, true, false, List, [], ◌∷◌, ◌++◌, Some, None, Option}
use Rattle.keypad.specs.declared.key.KeyEvent.{KeyEvent}
use Rattle.keypad.specs.declared.key.Symbol.{Symbol}
use Rattle.keypad.specs.Entries.{Entries}
use Rattle.keypad.specs.Sets.{Same, Remains}
use Rattle.key_record.specs.declared.ending.Ending.{Ending}
use Rattle.key_record.specs.declared.ending.Phase.TheVariants.{Done}
use Rattle.key_record.specs.declared.ending.Trigger.{Trigger}
use Rattle.key_record.specs.declared.ending.Trigger.TheVariants.{Press, Extra, Expiry}
use Rattle.key_record.specs.declared.settings.Disposition.{Disposition}
use Rattle.key_record.specs.declared.settings.Disposition.TheVariants.{Keep, Drop}
use Rattle.key_record.specs.States.{State}
use Rattle.key_record.specs.Turns.{Turned, pressed, closed, unmatched, Turns}
use Rattle.line.specs.declared.line.Line.{Line}
use Rattle.line.specs.Lines.{state_of}

-- the symbol that a key was pressed as, and how it ended the entry
abbrev pub turned_symbols : Turned → List Symbol
turned_symbols (pressed y) = y ∷ []
turned_symbols (closed y m) = y ∷ []
turned_symbols (unmatched y m) = []

abbrev pub turned_ending : Turned → Option Ending
turned_ending (pressed y) = None
turned_ending (closed y m) = Some (record { method = m; trigger = Press })
turned_ending (unmatched y m) = Some (record { method = m; trigger = Extra y })

abbrev pub dialled_on : State → List Symbol → State
dialled_on st ys = record {
  number = st.number;
  phase = st.phase;
  settings = st.settings;
  dial = st.dial ++ ys;
  ahead = st.ahead;
  count = st.count;
}

-- the line m is l with the key k fed to its entry, which ended so or is still open
pub record Processed {X : Type 0} (whole rest : X → Entries) (l : Line X) (k : KeyEvent) (r : Option Ending)
    (m : Line X) : Type 0 where
  pub turned : Turned
  pub turns : Turns l.settings (rest l.plan) k turned
  pub ended : r ≡ turned_ending turned
  pub state : state_of m ≡ dialled_on (state_of l) (turned_symbols turned)
  pub same : Same (whole m.plan) (whole l.plan)
  pub remains : Same (rest m.plan) (Remains (rest l.plan) (turned_symbols turned))

-- an unmatched key is kept for the next arming unless it is dropped
abbrev pub keeps : Disposition → Trigger → Bool
keeps d Press = false
keeps Keep (Extra y) = true
keeps Drop (Extra y) = false
keeps d (Expiry t) = false

-- one report more
abbrev pub finished : State → Ending → State
finished st e = record {
  number = st.number;
  phase = Done e;
  settings = st.settings;
  dial = st.dial;
  ahead = st.ahead;
  count = st.count + 1;
}
