-- The record of keys: what the line's number, its plan's whole and its calls tell. Assumes nothing.
use Rattle.std.specs.Prelude.{◌≡◌, ℕ, List, [], ◌∷◌, ◌++◌, Some, None, Option}
use Rattle.keypad.specs.declared.key.KeyEvent.{KeyEvent}
use Rattle.keypad.specs.declared.key.Symbol.{Symbol}
use Rattle.keypad.specs.Entries.{Entries}
use Rattle.keypad.specs.Sets.{Remains}
use Rattle.key_record.specs.declared.answer.Reply.{Reply}
use Rattle.key_record.specs.declared.call.Call.{Call}
use Rattle.key_record.specs.declared.ending.Ending.{Ending}
use Rattle.key_record.specs.declared.settings.Settings.{Settings}
use Rattle.key_record.specs.Turns.{Over, Outcome, still, over}
use Rattle.key_record.specs.States.{State, made_with, dropped_extra, Running}
use Rattle.key_record.specs.Effects.{Effect, refuses, queues, begins, presses, claims, settles, after, Replies}
use Rattle.key_record.specs.Rules.{Allows}

-- a report as the record has it: what the line was armed with, the dial string, how it ended, the keys taken
-- for it, and the key that fitted nowhere
pub record Told : Type 0 where
  pub settings : Settings
  pub dial : List Symbol
  pub ending : Ending
  pub keys : List KeyEvent
  pub extra : Option KeyEvent

-- what the line holds; the keys taken for the open entry; the keys that are gone, reported or dropped; all
-- reports in order; and the report lines that were written, in order
pub record Kept : Type 0 where
  pub state : State
  pub taken : List KeyEvent
  pub gone : List KeyEvent
  pub reports : List Told
  pub lines : List (List ℕ)

abbrev pub start : ℕ → Kept
start n = record { state = made_with n; taken = []; gone = []; reports = []; lines = [] }

-- the report that an outcome brings to a record at the state st
abbrev pub told : Kept → State → Over → Told
told r st o = record {
  settings = st.settings;
  dial = st.dial;
  ending = o.ending;
  keys = r.taken ++ o.taken;
  extra = o.extra;
}

-- pressed keys join taken; a report moves taken, then a dropped extra, to gone
abbrev pub notes : Kept → State → Outcome → Kept
notes r st (still p t) = record {
  state = st;
  taken = r.taken ++ t;
  gone = r.gone;
  reports = r.reports;
  lines = r.lines;
}
notes r st (over o) = record {
  state = st;
  taken = [];
  gone = (r.gone ++ (r.taken ++ o.taken)) ++ dropped_extra st.settings.disposition o.extra;
  reports = r.reports ++ told r st o ∷ [];
  lines = r.lines;
}

abbrev pub with_state : Kept → State → Kept
with_state r st = record {
  state = st;
  taken = r.taken;
  gone = r.gone;
  reports = r.reports;
  lines = r.lines;
}

abbrev pub with_line : Kept → Option (List ℕ) → Kept
with_line r None = r
with_line r (Some l) = record {
  state = r.state;
  taken = r.taken;
  gone = r.gone;
  reports = r.reports;
  lines = r.lines ++ l ∷ [];
}

-- the record once a call has had the effect
abbrev pub note : Kept → Effect → Kept
note r (refuses why) = r
note r (queues k) = with_state r (after r.state (queues k))
note r (begins s out) = notes r (after r.state (begins s out)) out
note r (presses out) = notes r (after r.state (presses out)) out
note r (claims e) = with_state r (after r.state (claims e))
note r (settles l) = with_line (with_state r (after r.state (settles l))) l

-- what remains of the whole's entries that begin with the dial string's symbols
abbrev pub remaining : Entries → Kept → Entries
remaining w r = Remains w r.state.dial

-- one call, the reply to it and the record after it
pub record Steps (w : Entries) (r : Kept) (c : Call) (x : Reply) (n : Kept) : Type 0 where
  pub effect : Effect
  pub allowed : Allows r.state w (remaining w r) c effect
  pub noted : n ≡ note r effect
  pub answered : Replies (remaining w n) n.state effect x.answer
  pub running : Running n.state (remaining w n) x.timer

-- a list of calls, in order
abbrev pub Runs : Entries → Kept → List Call → List Reply → Kept → Type 0
Runs w r [] [] n = n ≡ r
Runs w r [] (x ∷ xs) n = ⊥
Runs w r (c ∷ cs) [] n = ⊥
Runs w r (c ∷ cs) (x ∷ xs) n = (m : Kept) × Steps w r c x m × Runs w m cs xs n
