-- What a line has shown, and how it is told. Assumes nothing.
use Rattle.std.specs.Prelude.{◌≡◌, ℕ, Bool, true, false, List, [], ◌∷◌, ◌++◌, map, is_ok, vec_items, codes, Result, Vec}
use Rattle.std.specs.Str.{bytes_eq}
use Rattle.key_record.specs.Agreement.{Reported, Shown}
use Rattle.line_parts.specs.declared.report.Report.{Report}
use Rattle.line_parts.specs.Dialled.{dialled, dialled_in}
use Rattle.line_parts.specs.Queued.{queued}
use Rattle.line_parts.specs.declared.text.Text.{Text}
use Rattle.line_parts.specs.Texts.{text_of}
use Rattle.play_report.specs.declared.side.Side.{Side}
use Rattle.play_report.specs.Words.{reply_lines, report_lines_lem, entry_line, ahead_line}

abbrev pub report_by : Report → Reported
report_by r = record { dial = dialled r.dial; ending = r.ending }

abbrev pub shown_by : Side → Shown
shown_by s = record {
  replies = vec_items s.replies;
  reports = map report_by (vec_items s.reports);
  lines = vec_items s.lines;
  entry = dialled_in s.entry;
  ahead = queued s.ahead;
}

-- the replies; behind the word `reports` the reports, and behind `written` the bytes written; the open entry; the keys
-- ahead
abbrev pub side_words : Shown → List ℕ
side_words a = reply_lines a.replies ++ (codes "reports" ++ (10 ∷ (report_lines_lem a.reports ++ (codes "written"
    ++ (10 ∷ (a.lines ++ (entry_line a.entry ++ ahead_line a.ahead)))))))

-- `alike` or `different`
abbrev pub verdict_line : Bool → List ℕ
verdict_line true = codes "alike" ++ 10 ∷ []
verdict_line false = codes "different" ++ 10 ∷ []

-- two sides as they are told, each behind a word of its own, and then whether they are told alike
abbrev pub sides_words : List ℕ → List ℕ → List ℕ
sides_words xs ys = codes "first" ++ (10 ∷ (xs ++ (codes "second" ++ (10 ∷ (ys ++ verdict_line (bytes_eq xs ys))))))

module _ {Z X Y : Type 0} where
  -- where memory did not lack, bs stands behind what stood there before
  abbrev pub Adds : Vec ℕ Z → Result X Y → List ℕ → Vec ℕ Z → Type 0
  Adds before r bs after = is_ok r ≡ true → vec_items after ≡ vec_items before ++ bs

-- each text that P gives of a thing has the words of that thing
abbrev pub Tells : {X : Type 0} → (X → Text → Type 0) → (X → List ℕ) → Type 0
Tells {X} P words = (x : X) (t : Text) → P x t → text_of t ≡ words x
