-- The inside of a set, byte by byte. Assumes nothing.
use Rattle.std.specs.Prelude.{ℕ, ◌+◌, ◌-◌, ◌^◌, ◌<◌, cond, ◌&&◌, ◌==◌, bit_or, nat_le, Some, None, Option}
use Rattle.digit_map.specs.declared.set.Place.{Place}
use Rattle.digit_map.specs.declared.set.Place.TheVariants.{Start, Member, Digit, From}
use Rattle.digit_map.specs.declared.set.SetTurn.{SetTurn}
use Rattle.digit_map.specs.declared.set.SetTurn.TheVariants.{On, Done}
use Rattle.digit_map.specs.Bytes.{digit, key_letter_lem, letter_key}

-- the keys from a to b, as bits
abbrev pub span : ℕ → ℕ → ℕ
span a b = 2 ^ (b + 1) - 2 ^ a

-- where a member may begin; `close` is what a closing bracket does there
abbrev pub at_member : ℕ → ℕ → Option SetTurn → Option SetTurn
at_member m b close =
    cond (digit b) (Some (On (Digit (b - 48)) m))
    (cond (key_letter_lem b) (Some (On Member (bit_or m (2 ^ letter_key b))))
    (cond (b == 93) close None))

abbrev pub set_turn : Place → ℕ → ℕ → Option SetTurn
set_turn Start m b = at_member m b None
set_turn Member m b = at_member m b (Some (Done m))
set_turn (Digit d) m b = cond (b == 45) (Some (On (From d) m))
    (at_member (bit_or m (2 ^ d)) b (Some (Done (bit_or m (2 ^ d)))))
set_turn (From d) m b =
    cond (digit b && nat_le d (b - 48)) (Some (On Member (bit_or m (span d (b - 48))))) None

-- a digit that waits is one
abbrev pub Sound : Place → Type 0
Sound Start = Unit {0}
Sound Member = Unit {0}
Sound (Digit d) = d < 10
Sound (From d) = d < 10

abbrev pub SoundTurn : Option SetTurn → Type 0
SoundTurn (Some (On p m)) = Sound p
SoundTurn (Some (Done m)) = Unit {0}
SoundTurn None = Unit {0}
