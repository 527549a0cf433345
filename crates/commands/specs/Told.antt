-- What is told of the answer to a command. Assumes nothing.
use Rattle.std.specs.Prelude.{ℕ, List, [], ◌∷◌, ◌++◌, Some, None, Ok, Err, codes, decimal, Option, Result}
use Rattle.key_record.specs.declared.answer.Progress.{Progress}
use Rattle.key_record.specs.declared.answer.Progress.TheVariants.{Done, Wait, Ahead}
use Rattle.key_record.specs.declared.refusal.Refusal.{Refusal}
use Rattle.key_record.specs.declared.timer.Timer.{Timer}
use Rattle.key_record.specs.Letters.{timer_letter_lem}
use Rattle.key_record.specs.Refusals.{refusal_number}

-- `wait`, or with a limit as `wait L 16`, the timer and its seconds
abbrev pub wait_words : Option (Timer × ℕ) → List ℕ
wait_words None = codes "wait"
wait_words (Some (t, s)) = codes "wait " ++ (timer_letter_lem t ∷ 32 ∷ decimal s)

-- `done`, a wait, or how many keys are ahead, as `ahead 3`
abbrev pub progress_words : Progress → List ℕ
progress_words Done = codes "done"
progress_words (Wait w) = wait_words w
progress_words (Ahead n) = codes "ahead " ++ decimal n

-- the same as a line
abbrev pub progress_line : Progress → List ℕ
progress_line p = progress_words p ++ 10 ∷ []

-- a refusal by its number, as `no 31`
abbrev pub no_line : ℕ → List ℕ
no_line n = codes "no " ++ (decimal n ++ 10 ∷ [])

-- the line that is told of an answer
abbrev pub told_line : Result Progress Refusal → List ℕ
told_line (Ok p) = progress_line p
told_line (Err r) = no_line (refusal_number r)

-- the refusal of a line that writes no command
abbrev pub unreadable_number : ℕ
unreadable_number = 70
