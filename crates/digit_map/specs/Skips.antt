-- A run of blanks passed over. Assumes nothing.
use Rattle.std.specs.Prelude.{ℕ, ◌+◌, Bool, cond, ◌||◌, ◌==◌, List, drop, Some, None, Option}
use Rattle.std.specs.List.{prefix_len}
use Rattle.digit_map.specs.declared.token.Cursor.{Cursor}
use Rattle.digit_map.specs.Bytes.{blank}
use Rattle.digit_map.specs.Tokens.{joint_ahead}

-- the blanks that a text begins with may stand there, where `loose` says that a joint stands before them
abbrev pub may_stand : List ℕ → Bool → Bool
may_stand bs loose = prefix_len blank bs == 0 || (loose || joint_ahead bs)

-- the first index from a cursor on that has no blank, if the blanks before it may stand there
abbrev pub past_blanks_lem : List ℕ → Cursor → Option ℕ
past_blanks_lem text c =
    cond (may_stand (drop c.at text) c.loose) (Some (c.at + prefix_len blank (drop c.at text))) None
