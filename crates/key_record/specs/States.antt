-- What a line holds, and where an entry leaves it. Assumes nothing.
use Rattle.std.specs.Prelude.{◌≡◌, ℕ, ◌+◌, ◌⊎◌, List, [], ◌∷◌, ◌++◌, Some, None, Option}
use Rattle.keypad.specs.declared.key.KeyEvent.{KeyEvent}
use Rattle.keypad.specs.declared.key.Symbol.{Symbol}
use Rattle.keypad.specs.Entries.{Entries}
use Rattle.keypad.specs.Timing.{standard}
use Rattle.key_record.specs.declared.ending.Phase.{Phase}
use Rattle.key_record.specs.declared.ending.Phase.TheVariants.{Idle, Open, Done}
use Rattle.key_record.specs.declared.settings.Disposition.{Disposition}
use Rattle.key_record.specs.declared.settings.Disposition.TheVariants.{Keep, Drop}
use Rattle.key_record.specs.declared.settings.Procedure.TheVariants.{Base}
use Rattle.key_record.specs.declared.settings.Settings.{Settings}
use Rattle.key_record.specs.declared.timer.Timer.{Timer}
use Rattle.key_record.specs.Dials.{fresh}
use Rattle.key_record.specs.Keying.{Awaits}
use Rattle.key_record.specs.Turns.{Outcome, still, over}

-- the line's number, where it stands, what it was armed with last, the symbols pressed since, the keys ahead,
-- the oldest first, and its count of reports
pub record State : Type 0 where
  pub number : ℕ
  pub phase : Phase
  pub settings : Settings
  pub dial : List Symbol
  pub ahead : List KeyEvent
  pub count : ℕ

-- a line straight from its making; its settings count for nothing until it is armed
abbrev pub made_with : ℕ → State
made_with n = record {
  number = n;
  phase = Idle;
  settings = record { procedure = Base; disposition = Keep; timers = standard };
  dial = [];
  ahead = [];
  count = 0;
}

abbrev pub with_phase : State → Phase → State
with_phase st p = record {
  number = st.number;
  phase = p;
  settings = st.settings;
  dial = st.dial;
  ahead = st.ahead;
  count = st.count;
}

abbrev pub with_ahead : State → List KeyEvent → State
with_ahead st ks = record {
  number = st.number;
  phase = st.phase;
  settings = st.settings;
  dial = st.dial;
  ahead = ks;
  count = st.count;
}

-- armed, with its keys ahead taken off to be fed
abbrev pub armed : State → Settings → State
armed st s = record {
  number = st.number;
  phase = st.phase;
  settings = s;
  dial = [];
  ahead = [];
  count = st.count;
}

-- an unmatched key goes to the front of the keys ahead, or is dropped
abbrev pub kept_extra : Disposition → Option KeyEvent → List KeyEvent
kept_extra d None = []
kept_extra Keep (Some k) = k ∷ []
kept_extra Drop (Some k) = []

abbrev pub dropped_extra : Disposition → Option KeyEvent → List KeyEvent
dropped_extra d None = []
dropped_extra Keep (Some k) = []
dropped_extra Drop (Some k) = k ∷ []

-- the line once its entry has come to the outcome
abbrev pub lands : State → Outcome → State
lands st (still p t) = record {
  number = st.number;
  phase = Open;
  settings = st.settings;
  dial = st.dial ++ p;
  ahead = st.ahead;
  count = st.count;
}
lands st (over o) = record {
  number = st.number;
  phase = Done o.ending;
  settings = st.settings;
  dial = st.dial ++ o.pressed;
  ahead = kept_extra st.settings.disposition o.extra ++ (o.left ++ st.ahead);
  count = st.count + 1;
}

-- the one if the fact holds, else the other
abbrev pub Whether : {F : Type 0} (P : Type 0) → (P → F → Type 0) → (F → Type 0) → F → Type 0
Whether P X Y f = ((h : P) × X h f) ⊎ ((P → ⊥) × Y f)

-- the timer that runs, a being what remains: none unless the line is open
abbrev pub Running : State → Entries → Option (Timer × ℕ) → Type 0
Running st a = Whether (st.phase ≡ Open) (λ _ v. Awaits st.settings.timers a (fresh st.dial) v)
    (λ v. v ≡ None)
