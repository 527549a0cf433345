-- Replies, reports, the open entry and the keys ahead in words. Assumes nothing.
use Rattle.std.specs.Prelude.{ℕ, cond, List, [], ◌∷◌, ◌++◌, Some, None, codes, decimal, Option, ◌==◌, Ok, Err, Result}
use Rattle.keypad.specs.declared.key.KeyEvent.{KeyEvent}
use Rattle.keypad.specs.declared.key.Symbol.{Symbol}
use Rattle.key_record.specs.declared.answer.Answer.{Answer}
use Rattle.key_record.specs.declared.answer.Answer.TheVariants.{Moved, Claimed, Booked, Waived}
use Rattle.key_record.specs.declared.answer.Reply.{Reply}
use Rattle.key_record.specs.declared.refusal.Refusal.{Refusal}
use Rattle.key_record.specs.declared.timer.Timer.{Timer}
use Rattle.key_record.specs.Agreement.{Reported}
use Rattle.key_record.specs.Dials.{fresh}
use Rattle.key_record.specs.Letters.{key_letter_lem, dial_text, timer_letter_lem, report_line}
use Rattle.key_record.specs.Refusals.{refusal_number}
use Rattle.commands.specs.Told.{progress_words}

-- the timer that runs with its seconds, as `L 16`, or a dash
abbrev pub timer_words : Option (Timer × ℕ) → List ℕ
timer_words None = codes "-"
timer_words (Some (t, s)) = timer_letter_lem t ∷ 32 ∷ decimal s

-- how far the line has come, or as `receipt 1 3`, `booked 17`, `waived` or `no 51`
abbrev pub answer_words : Result Answer Refusal → List ℕ
answer_words (Ok (Moved p)) = progress_words p
answer_words (Ok (Claimed n)) = codes "receipt " ++ (decimal n.number ++ (codes " " ++ decimal n.count))
answer_words (Ok (Booked n)) = codes "booked " ++ decimal n
answer_words (Ok Waived) = codes "waived"
answer_words (Err r) = codes "no " ++ decimal (refusal_number r)

-- as `wait L 16 | L 16`
abbrev pub reply_line : Reply → List ℕ
reply_line r = answer_words r.answer ++ (codes " | " ++ (timer_words r.timer ++ 10 ∷ []))

-- one behind another
abbrev pub told_all : {X : Type 0} → (X → List ℕ) → List X → List ℕ
told_all f [] = []
told_all f (x ∷ xs) = f x ++ told_all f xs

abbrev pub reply_lines : List Reply → List ℕ
reply_lines rs = told_all reply_line rs

abbrev pub report_lines_lem : List Reported → List ℕ
report_lines_lem rs = told_all (λ r. report_line r.dial r.ending) rs

-- as `entry 12`, or `entry` where no symbol has been pressed
abbrev pub open_line : List Symbol → List ℕ
open_line d = codes "entry" ++ (cond (fresh d) [] (32 ∷ []) ++ (dial_text d ++ 10 ∷ []))

abbrev pub entry_line : Option (List Symbol) → List ℕ
entry_line None = codes "no entry" ++ 10 ∷ []
entry_line (Some d) = open_line d

-- a key behind a blank, with its tenths of a second unless it was held for one
abbrev pub key_words : KeyEvent → List ℕ
key_words k = 32 ∷ key_letter_lem k.key ∷ cond (k.tenths == 1) [] (decimal k.tenths)

-- as `ahead 1 F11`
abbrev pub ahead_line : List KeyEvent → List ℕ
ahead_line ks = codes "ahead" ++ (told_all key_words ks ++ 10 ∷ [])
