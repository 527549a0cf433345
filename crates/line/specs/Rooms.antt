-- Room for what a line answers, reports and writes. Assumes nothing.
use Rattle.std.specs.Prelude.{◌≡◌, ℕ, ◌+◌, ◌*◌, ◌≤◌, [], vec_items, vec_len, vec_capacity}
use Rattle.line.specs.declared.play.Log.{Log}

-- room for so many calls more: a reply, a report and 85 bytes for each
pub record Room (l : Log) (n : ℕ) : Type 0 where
  pub replies : vec_len l.replies + n ≤ vec_capacity l.replies
  pub reports : vec_len l.reports + n ≤ vec_capacity l.reports
  pub lines : vec_len l.lines + 85 * n ≤ vec_capacity l.lines

-- nothing noted yet
pub record Blank (l : Log) : Type 0 where
  pub replies : vec_items l.replies ≡ []
  pub reports : vec_items l.reports ≡ []
  pub lines : vec_items l.lines ≡ []
