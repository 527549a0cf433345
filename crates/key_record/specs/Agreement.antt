-- The agreement of lines: what the record of keys tells of a line, and of two. Assumes nothing.
use Rattle.std.specs.Prelude.{◌≡◌, ℕ, List, [], ◌∷◌, ◌++◌, map, None, Option}
use Rattle.keypad.specs.declared.key.KeyEvent.{KeyEvent}
use Rattle.keypad.specs.declared.key.Symbol.{Symbol}
use Rattle.keypad.specs.Entries.{Entries}
use Rattle.keypad.specs.Sets.{Same}
use Rattle.key_record.specs.declared.answer.Reply.{Reply}
use Rattle.key_record.specs.declared.call.Call.{Call}
use Rattle.key_record.specs.declared.ending.Ending.{Ending}
use Rattle.key_record.specs.Entry.{open_dial}
use Rattle.key_record.specs.Kinds.{keys, armings, accepted, Smooth}
use Rattle.key_record.specs.Meaning.{Meant}
use Rattle.key_record.specs.Record.{Told, Kept, Runs, start}
use Rattle.key_record.specs.Spelling.{Accounts}
use Rattle.key_record.specs.Ticking.{Ticking, latest}

-- a report: its dial string and how it ended
pub record Reported : Type 0 where
  pub dial : List Symbol
  pub ending : Ending

-- what a line has shown after a list of calls: its answers, each with the timer that runs after it; all its
-- reports in order; the bytes of the report lines that it wrote, one behind another; its open entry; and its
-- keys ahead
pub record Shown : Type 0 where
  pub replies : List Reply
  pub reports : List Reported
  pub lines : List ℕ
  pub entry : Option (List Symbol)
  pub ahead : List KeyEvent

abbrev pub reported : Told → Reported
reported t = record { dial = t.dial; ending = t.ending }

abbrev pub joined : List (List ℕ) → List ℕ
joined [] = []
joined (l ∷ ls) = l ++ joined ls

-- what the record shows of itself
abbrev pub shown : List Reply → Kept → Shown
shown xs r = record {
  replies = xs;
  reports = map reported r.reports;
  lines = joined r.lines;
  entry = open_dial r.state;
  ahead = r.state.ahead;
}

-- the record tells the line: number, whole and calls have one record and one list of replies, and what the
-- line shows is the record's; every key is accounted for; its reports and its open entry mean what they say;
-- and the timer that runs is the one of its dial string
pub record Recorded (w : Entries) (number : ℕ) (cs : List Call) (a : Shown) : Type 0 where
  pub kept : Kept
  pub runs : Runs w (start number) cs a.replies kept
  pub shows : a ≡ shown a.replies kept
  pub only : (xs : List Reply) (n : Kept) → Runs w (start number) cs xs n → (xs ≡ a.replies) × (n ≡ kept)
  pub accounts : Accounts w kept (accepted cs a.replies)
  pub means : Meant w kept
  pub ticks : Ticking w kept.state (latest None a.replies)

-- two lines with one number, over the plans w and v, after the calls cs and ds
pub record Agreement (w v : Entries) (number : ℕ) (cs ds : List Call) (a b : Shown) : Type 0 where
  pub first : Recorded w number cs a
  pub second : Recorded v number ds b
  -- the same entries and the same calls: all that is shown is the same
  pub same_calls : Same w v → cs ≡ ds → a ≡ b
  -- the same entries, keys and armings, with no call refused and no expiry: keying ahead changes nothing
  pub keyed_ahead : Same w v → keys cs ≡ keys ds → armings cs ≡ armings ds → Smooth cs a.replies
      → Smooth ds b.replies
      → (a.reports ≡ b.reports) × (a.entry ≡ b.entry) × (a.ahead ≡ b.ahead)
