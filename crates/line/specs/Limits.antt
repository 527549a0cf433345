-- What a line has room for in each phase. Assumes nothing.
use Rattle.std.specs.Prelude.{ℕ}
use Rattle.key_record.specs.declared.ending.Phase.{Phase}
use Rattle.key_record.specs.declared.ending.Phase.TheVariants.{Idle, Open, Done, Claimed}

-- 999,999 reports at most, of which an open line has one to come
abbrev pub most_reports : Phase → ℕ
most_reports Idle = 999999
most_reports Open = 999998
most_reports (Done e) = 999999
most_reports (Claimed e) = 999999

-- 32 keys ahead at most; an open line takes its keys as they come
abbrev pub most_ahead : Phase → ℕ
most_ahead Idle = 32
most_ahead Open = 0
most_ahead (Done e) = 32
most_ahead (Claimed e) = 32
