-- What a sign does to an alternative's reader. Assumes nothing.
use Rattle.std.specs.Prelude.{ℕ, Bool, true, false, cond, not, ◌&&◌, nat_le, nat_lt, Ok, Err, Result}
use Rattle.keypad.specs.declared.key.Mark.{Mark}
use Rattle.keypad.specs.declared.key.Mark.TheVariants.{Unmarked}
use Rattle.digit_map.specs.declared.fault.Cause.{Cause}
use Rattle.digit_map.specs.declared.fault.Cause.TheVariants as cause
use Rattle.digit_map.specs.declared.fault.Fault.{Fault}
use Rattle.digit_map.specs.declared.sign.Sign.{Sign}
use Rattle.digit_map.specs.declared.sign.Sign.TheVariants as sign
use Rattle.digit_map.specs.declared.progress.Last.{Last}
use Rattle.digit_map.specs.declared.progress.Last.TheVariants as last
use Rattle.digit_map.specs.declared.progress.Progress.{Progress}
use Rattle.digit_map.specs.declared.progress.Frame.{Frame}
use Rattle.digit_map.specs.declared.progress.Act.{Act}
use Rattle.digit_map.specs.declared.progress.Act.TheVariants.{Go, Put, AddDot, OpenSet, Halt}
use Rattle.digit_map.specs.Faults.{fault_in_lem}
use Rattle.digit_map.specs.Limits.{Limits}
use Rattle.digit_map.specs.Nodes.{position}

abbrev pub progress : Mark → Bool → Bool → ℕ → Last → Progress
progress m h n f l = record { mark = m; marked = h; needs = n; first = f; last = l }

-- before the first byte of an alternative
abbrev pub fresh : Progress
fresh = progress Unmarked false false 0 last.Nothing

-- the first byte's offset, where the next one stands at o
abbrev pub first_at : ℕ → ℕ → Last → ℕ
first_at f o last.Nothing = o
first_at f o last.Mark = f
first_at f o last.Position = f
first_at f o last.Dot = f
first_at f o (last.Hold z) = f

-- whether a key is needed, once something else than a dot follows
abbrev pub needs_by : Bool → Last → Bool
needs_by n last.Nothing = n
needs_by n last.Mark = n
needs_by n last.Position = true
needs_by n last.Dot = n
needs_by n (last.Hold z) = n

-- how far an alternative is read behind one more byte, of which l is what it leaves last
abbrev pub onward : Progress → ℕ → Mark → Bool → Last → Progress
onward p o m h l = progress m h (needs_by p.needs p.last) (first_at p.first o p.last) l

-- the fault of alternative n
abbrev pub wrong : ℕ → Cause → ℕ → Result Act Fault
wrong n c o = Err (fault_in_lem n c o)

-- in alternative n a Z that waits for its position is at fault; elsewhere `a`
abbrev pub unless_held : ℕ → Last → Result Act Fault → Result Act Fault
unless_held n last.Nothing a = a
unless_held n last.Mark a = a
unless_held n last.Position a = a
unless_held n last.Dot a = a
unless_held n (last.Hold z) a = wrong n cause.Affix z

-- `a` behind a Z that waits, elsewhere `b`
abbrev pub if_held : Last → Result Act Fault → Result Act Fault → Result Act Fault
if_held last.Nothing a b = b
if_held last.Mark a b = b
if_held last.Position a b = b
if_held last.Dot a b = b
if_held (last.Hold z) a b = a

-- the alternative is not one too many; there is room for one position more
abbrev pub in_number_lem : Limits → Frame → Bool
in_number_lem L f = nat_le f.number L.alternatives

abbrev pub has_room : Limits → Frame → ℕ → Bool
has_room L f count = in_number_lem L f && nat_lt count L.positions

-- a dot belongs right behind a position
abbrev pub at_dot : ℕ → Progress → ℕ → Last → Result Act Fault
at_dot n p o last.Nothing = wrong n cause.Affix o
at_dot n p o last.Mark = wrong n cause.Affix o
at_dot n p o last.Position = Ok (AddDot (progress p.mark false p.needs p.first last.Dot))
at_dot n p o last.Dot = wrong n cause.Affix o
at_dot n p o (last.Hold z) = wrong n cause.Affix z

-- where an alternative may end, if `here`; `keyless` says that one that needs no key is at fault as such
abbrev pub at_halt : ℕ → Progress → ℕ → Bool → Bool → Last → Result Act Fault
at_halt n p o here keyless last.Nothing = wrong n cause.Byte o
at_halt n p o here keyless last.Mark = cond (keyless && not p.needs) (wrong n cause.Keyless p.first)
    (cond here (Ok Halt) (wrong n cause.Byte o))
at_halt n p o here keyless last.Position = cond here (Ok Halt) (wrong n cause.Byte o)
at_halt n p o here keyless last.Dot = cond (keyless && not p.needs) (wrong n cause.Keyless p.first)
    (cond here (Ok Halt) (wrong n cause.Byte o))
at_halt n p o here keyless (last.Hold z) = wrong n cause.Affix z

abbrev pub acts : Limits → Frame → ℕ → Progress → Sign → ℕ → Result Act Fault
acts L f n p (sign.Keys k) o =
    if_held p.last (Ok (Put (position k true false) (onward p o p.mark false last.Position)))
    (cond (has_room L f n) (Ok (Put (position k false false) (onward p o p.mark false last.Position)))
    (wrong f.number cause.Excess o))
acts L f n p (sign.Timer m) o = unless_held f.number p.last
    (cond (in_number_lem L f) (Ok (Go (onward p o m true last.Mark))) (wrong f.number cause.Excess o))
acts L f n p (sign.Field i) o = wrong f.number cause.Head o
acts L f n p sign.Hold o =
    unless_held f.number p.last (cond (has_room L f n) (Ok (Go (onward p o p.mark p.marked (last.Hold o))))
    (wrong f.number cause.Excess o))
acts L f n p sign.SetOpen o = if_held p.last (Ok (OpenSet true))
    (cond (has_room L f n) (Ok (OpenSet false)) (wrong f.number cause.Excess o))
acts L f n p sign.Open o = unless_held f.number p.last (wrong f.number cause.Byte o)
acts L f n p sign.Close o = at_halt f.number p o f.bracketed true p.last
acts L f n p sign.Bar o = at_halt f.number p o f.bracketed true p.last
acts L f n p sign.Dot o = at_dot f.number p o p.last
acts L f n p sign.End o = at_halt f.number p o (not f.bracketed) (not f.bracketed) p.last
acts L f n p sign.Other o = unless_held f.number p.last (wrong f.number cause.Byte o)
