-- A text read token by token. Assumes nothing.
use Rattle.std.specs.Prelude.{ℕ, ◌+◌, Bool, true, false, cond, List, [], ◌∷◌, ◌++◌, Some, None, Option, Ok, Err, Result, nat_le}
use Rattle.keypad.specs.declared.timers.Timers.{Timers}
use Rattle.keypad.specs.Timing.{standard}
use Rattle.digit_map.specs.declared.fault.Cause.TheVariants as cause
use Rattle.digit_map.specs.declared.fault.Fault.{Fault}
use Rattle.digit_map.specs.declared.sign.Field.{Field}
use Rattle.digit_map.specs.declared.sign.Sign.{Sign}
use Rattle.digit_map.specs.declared.sign.Sign.TheVariants as sign
use Rattle.digit_map.specs.declared.token.Token.{Token}
use Rattle.digit_map.specs.declared.token.Token.TheVariants as token
use Rattle.digit_map.specs.declared.node.Node.{Node}
use Rattle.digit_map.specs.declared.set.Place.{Place}
use Rattle.digit_map.specs.declared.set.Place.TheVariants as place
use Rattle.digit_map.specs.declared.set.SetTurn.{SetTurn}
use Rattle.digit_map.specs.declared.set.SetTurn.TheVariants as set
use Rattle.digit_map.specs.declared.head.Digits.{Digits}
use Rattle.digit_map.specs.declared.head.Digits.TheVariants as digits
use Rattle.digit_map.specs.declared.head.FieldTurn.{FieldTurn}
use Rattle.digit_map.specs.declared.head.FieldTurn.TheVariants as field
use Rattle.digit_map.specs.declared.progress.Last.TheVariants as last
use Rattle.digit_map.specs.declared.progress.Progress.{Progress}
use Rattle.digit_map.specs.declared.progress.Frame.{Frame}
use Rattle.digit_map.specs.declared.progress.Act.{Act}
use Rattle.digit_map.specs.declared.progress.Act.TheVariants.{Go, Put, AddDot, OpenSet, Halt}
use Rattle.digit_map.specs.Faults.{fault}
use Rattle.digit_map.specs.Signs.{sign_of}
use Rattle.digit_map.specs.Nodes.{position, awaiting, ending, count_positions, dot_last_lem}
use Rattle.digit_map.specs.Sets.{set_turn}
use Rattle.digit_map.specs.Fields.{rank, timed, field_turn}
use Rattle.digit_map.specs.Limits.{Limits}
use Rattle.digit_map.specs.Acts.{fresh, onward, acts}

-- where a token stands: behind fields, of which the next has the number at least; in a field, whose letter
-- stands at an offset; in an alternative; in a set, long or not, that opened at an offset; behind the closing
-- round bracket
pub data Spot : Type 0 where
  in_head : ℕ → Spot
  in_field : Field → ℕ → Digits → Spot
  in_alternative : Frame → Progress → Spot
  in_set : Frame → Progress → Bool → ℕ → Place → ℕ → Spot
  closed : ℕ → Spot

-- what has been read: timers and places, and where the next token stands
pub record State : Type 0 where
  pub timers : Timers
  pub nodes : List Node
  pub spot : Spot

-- what a token leads to
pub data Turn : Type 0 where
  on : State → Turn
  done : Timers → List Node → Turn
  bad : Fault → Turn

abbrev pub state : Timers → List Node → Spot → State
state t ns s = record { timers = t; nodes = ns; spot = s }

abbrev pub start : State
start = state standard [] (in_head 0)

abbrev pub frame : Bool → ℕ → Frame
frame b n = record { bracketed = b; number = n }

-- outside sets and fields: a token by its sign, in alternative n
abbrev pub by_sign : ℕ → (Sign → ℕ → Turn) → Token → Turn
by_sign n f (token.Byte b c o) = f (sign_of b c) o
by_sign n f (token.Gap o) = bad (fault cause.Byte o n)
by_sign n f (token.End o) = f sign.End o

-- inside a set or a field: a token by its byte; at the text's end it is unfinished
abbrev pub by_byte : ℕ → Fault → (ℕ → Turn) → Token → Turn
by_byte n unfinished f (token.Byte b c o) = f b
by_byte n unfinished f (token.Gap o) = bad (fault cause.Byte o n)
by_byte n unfinished f (token.End o) = bad unfinished

-- behind an alternative that ends with a bar, a closing bracket or the text's end
abbrev pub halts : Timers → List Node → Frame → Sign → Turn
halts t ns f (sign.Keys k) = done t ns
halts t ns f (sign.Timer m) = done t ns
halts t ns f (sign.Field i) = done t ns
halts t ns f sign.Hold = done t ns
halts t ns f sign.SetOpen = done t ns
halts t ns f sign.Open = done t ns
halts t ns f sign.Close = on (state t ns (closed f.number))
halts t ns f sign.Bar = on (state t ns (in_alternative (frame true (f.number + 1)) fresh))
halts t ns f sign.Dot = done t ns
halts t ns f sign.End = done t ns
halts t ns f sign.Other = done t ns

abbrev pub acted : Timers → List Node → Frame → Progress → Sign → ℕ → Result Act Fault → Turn
acted t ns f p s o (Ok (Go q)) = on (state t ns (in_alternative f q))
acted t ns f p s o (Ok (Put x q)) = on (state t (ns ++ awaiting x p.mark p.marked ∷ []) (in_alternative f q))
acted t ns f p s o (Ok (AddDot q)) = on (state t (dot_last_lem ns) (in_alternative f q))
acted t ns f p s o (Ok (OpenSet l)) = on (state t ns (in_set f p l o place.Start 0))
acted t ns f p s o (Ok Halt) = halts t (ns ++ ending p.mark p.marked ∷ []) f s
acted t ns f p s o (Err e) = bad e

abbrev pub turn_alternative : Limits → Timers → List Node → Frame → Progress → Sign → ℕ → Turn
turn_alternative L t ns f p s o = acted t ns f p s o (acts L f (count_positions ns) p s o)

abbrev pub turn_head : Limits → Timers → ℕ → Sign → ℕ → Turn
turn_head L t k (sign.Keys m) o = turn_alternative L t [] (frame false 1) fresh (sign.Keys m) o
turn_head L t k (sign.Timer m) o = turn_alternative L t [] (frame false 1) fresh (sign.Timer m) o
turn_head L t k (sign.Field i) o = cond (nat_le k (rank i)) (on (state t [] (in_field i o digits.Letter)))
    (bad (fault cause.Head o 0))
turn_head L t k sign.Hold o = turn_alternative L t [] (frame false 1) fresh sign.Hold o
turn_head L t k sign.SetOpen o = turn_alternative L t [] (frame false 1) fresh sign.SetOpen o
turn_head L t k sign.Open o = on (state t [] (in_alternative (frame true 1) fresh))
turn_head L t k sign.Close o = turn_alternative L t [] (frame false 1) fresh sign.Close o
turn_head L t k sign.Bar o = turn_alternative L t [] (frame false 1) fresh sign.Bar o
turn_head L t k sign.Dot o = turn_alternative L t [] (frame false 1) fresh sign.Dot o
turn_head L t k sign.End o = turn_alternative L t [] (frame false 1) fresh sign.End o
turn_head L t k sign.Other o = turn_alternative L t [] (frame false 1) fresh sign.Other o

abbrev pub turn_closed : Timers → List Node → ℕ → Sign → ℕ → Turn
turn_closed t ns n (sign.Keys k) o = bad (fault cause.Byte o n)
turn_closed t ns n (sign.Timer m) o = bad (fault cause.Byte o n)
turn_closed t ns n (sign.Field i) o = bad (fault cause.Head o 0)
turn_closed t ns n sign.Hold o = bad (fault cause.Byte o n)
turn_closed t ns n sign.SetOpen o = bad (fault cause.Byte o n)
turn_closed t ns n sign.Open o = bad (fault cause.Byte o n)
turn_closed t ns n sign.Close o = bad (fault cause.Byte o n)
turn_closed t ns n sign.Bar o = bad (fault cause.Byte o n)
turn_closed t ns n sign.Dot o = bad (fault cause.Affix o n)
turn_closed t ns n sign.End o = done t ns
turn_closed t ns n sign.Other o = bad (fault cause.Byte o n)

abbrev pub fielded : Timers → Field → ℕ → Option FieldTurn → Turn
fielded t i at (Some (field.On d)) = on (state t [] (in_field i at d))
fielded t i at (Some (field.Done v)) = on (state (timed t i v) [] (in_head (rank i + 1)))
fielded t i at None = bad (fault cause.Head at 0)

abbrev pub in_set_turned : Timers → List Node → Frame → Progress → Bool → ℕ → Option SetTurn → Turn
in_set_turned t ns f p l at (Some (set.On q k)) = on (state t ns (in_set f p l at q k))
in_set_turned t ns f p l at (Some (set.Done k)) =
    on (state t (ns ++ awaiting (position k l false) p.mark p.marked ∷ [])
    (in_alternative f (onward p at p.mark false last.Position)))
in_set_turned t ns f p l at None = bad (fault cause.Set at f.number)

-- one token
abbrev pub turn_at : Limits → Timers → List Node → Spot → Token → Turn
turn_at L t ns (in_head k) = by_sign 1 (turn_head L t k)
turn_at L t ns (in_field i at d) = by_byte 1 (fault cause.Head at 0) (λ b. fielded t i at (field_turn i d b))
turn_at L t ns (in_alternative f p) = by_sign f.number (turn_alternative L t ns f p)
turn_at L t ns (in_set f p l at q k) = by_byte f.number (fault cause.Set at f.number)
    (λ b. in_set_turned t ns f p l at (set_turn q k b))
turn_at L t ns (closed n) = by_sign n (turn_closed t ns n)

abbrev pub turn : Limits → State → Token → Turn
turn L s x = turn_at L s.timers s.nodes s.spot x

-- the tokens one behind another, up to the first that ends the reading
abbrev pub run : Limits → State → List Token → Turn
run L s [] = on s
run L s (x ∷ xs) = elim (turn L s x) [ on q ↦ run L q xs | done t ns ↦ done t ns | bad f ↦ bad f ]

-- the tokens behind a turn
abbrev pub went : Limits → Turn → List Token → Turn
went L x xs = elim x [ on q ↦ run L q xs | done t ns ↦ done t ns | bad f ↦ bad f ]
