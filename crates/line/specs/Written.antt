-- The bytes that a call writes. Assumes nothing.
use Rattle.std.specs.Prelude.{ℕ, List, [], Some, None}
use Rattle.key_record.specs.Effects.{Effect, refuses, queues, begins, presses, claims, settles}

-- the bytes that an effect writes
abbrev pub written : Effect → List ℕ
written (refuses why) = []
written (queues k) = []
written (begins s out) = []
written (presses out) = []
written (claims e) = []
written (settles None) = []
written (settles (Some l)) = l
