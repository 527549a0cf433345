-- What each reader answers, by the tokens that it takes. Assumes nothing.
use Rattle.std.specs.Prelude.{◌≡◌, ℕ, ◌+◌, ◌<◌, ◌≤◌, Bool, true, false, cond, ◌&&◌, List, [], ◌∷◌, ◌++◌, length, drop, Some, None, Ok, Err, Option, Result, nat_le, nat_lt}
use Rattle.keypad.specs.declared.timers.Timers.{Timers}
use Rattle.digit_map.specs.declared.fault.Cause.TheVariants as cause
use Rattle.digit_map.specs.declared.fault.Fault.{Fault}
use Rattle.digit_map.specs.declared.sign.Field.{Field}
use Rattle.digit_map.specs.declared.sign.Sign.{Sign}
use Rattle.digit_map.specs.declared.sign.Sign.TheVariants as sign
use Rattle.digit_map.specs.declared.token.Token.{Token}
use Rattle.digit_map.specs.declared.token.Token.TheVariants as token
use Rattle.digit_map.specs.declared.token.Cursor.{Cursor}
use Rattle.digit_map.specs.declared.node.Node.{Node}
use Rattle.digit_map.specs.declared.draft.Draft.{Draft}
use Rattle.digit_map.specs.declared.set.Place.TheVariants as place
use Rattle.digit_map.specs.declared.head.Digits.TheVariants as digits
use Rattle.digit_map.specs.declared.progress.Last.TheVariants as last
use Rattle.digit_map.specs.declared.progress.Progress.{Progress}
use Rattle.digit_map.specs.declared.progress.Frame.{Frame}
use Rattle.digit_map.specs.Faults.{fault}
use Rattle.digit_map.specs.Signs.{sign_of}
use Rattle.digit_map.specs.Tokens.{tokens, rest}
use Rattle.digit_map.specs.Nodes.{position, awaiting, count_ends}
use Rattle.digit_map.specs.Drafts.{drafted}
use Rattle.digit_map.specs.Fields.{rank, timed}
use Rattle.digit_map.specs.Limits.{sale}
use Rattle.digit_map.specs.Acts.{fresh, onward}
use Rattle.digit_map.specs.Turns.{Turn, done, bad, in_head, in_field, in_alternative, in_set, closed}
use Rattle.digit_map.specs.Turns.{state, start, halts, run, went}

-- a token's byte inside a set or a field, in alternative n
abbrev pub byte_at : ℕ → Fault → Token → Result ℕ Fault
byte_at n unfinished (token.Byte b c o) = Ok b
byte_at n unfinished (token.Gap o) = Err (fault cause.Byte o n)
byte_at n unfinished (token.End o) = Err unfinished

-- a token's sign outside sets and fields, and its offset
abbrev pub sign_at : ℕ → Token → Result (Sign × ℕ) Fault
sign_at n (token.Byte b c o) = Ok (sign_of b c, o)
sign_at n (token.Gap o) = Err (fault cause.Byte o n)
sign_at n (token.End o) = Ok (sign.End, o)

abbrev pub field_sign : ℕ → ℕ → Sign → Option (Field × ℕ)
field_sign k o (sign.Keys m) = None
field_sign k o (sign.Timer m) = None
field_sign k o (sign.Field i) = cond (nat_le k (rank i)) (Some (i, o)) None
field_sign k o sign.Hold = None
field_sign k o sign.SetOpen = None
field_sign k o sign.Open = None
field_sign k o sign.Close = None
field_sign k o sign.Bar = None
field_sign k o sign.Dot = None
field_sign k o sign.End = None
field_sign k o sign.Other = None

-- the field that a token begins where fields from number k on may stand
abbrev pub next_field : ℕ → Token → Option (Field × ℕ)
next_field k (token.Byte b c o) = field_sign k o (sign_of b c)
next_field k (token.Gap o) = None
next_field k (token.End o) = None

-- a set is read whatever was read before it
abbrev pub SetRead : List ℕ → ℕ → Cursor → ℕ → ℕ → Result (ℕ × Cursor) Fault → Type 0
SetRead text base c at n (Ok x) =
    (c.at ≤ x.1.at) × (x.1.at ≤ length text)
    × ((t : Timers) (ns : List Node) (f : Frame) (p : Progress) (l : Bool) → f.number ≡ n →
    run sale (state t ns (in_set f p l at place.Start 0)) (rest text base c)
    ≡ run sale (state t (ns ++ awaiting (position x.0 l false) p.mark p.marked ∷ [])
    (in_alternative f (onward p at p.mark false last.Position))) (rest text base x.1))
SetRead text base c at n (Err e) =
    (t : Timers) (ns : List Node) (f : Frame) (p : Progress) (l : Bool) → f.number ≡ n →
    run sale (state t ns (in_set f p l at place.Start 0)) (rest text base c) ≡ bad e

abbrev pub FieldRead : List ℕ → ℕ → Cursor → Field → ℕ → Result (ℕ × Cursor) Fault → Type 0
FieldRead text base c i at (Ok x) =
    (c.at < x.1.at) × (x.1.at ≤ length text) × (x.1.loose ≡ true) × (x.0 < 100)
    × ((t : Timers) → run sale (state t [] (in_field i at digits.Letter)) (rest text base c)
    ≡ run sale (state (timed t i x.0) [] (in_head (rank i + 1))) (rest text base x.1))
FieldRead text base c i at (Err e) = (t : Timers) →
    run sale (state t [] (in_field i at digits.Letter)) (rest text base c) ≡ bad e

-- behind the head no field may begin
abbrev pub HeadRead : List ℕ → Result (Timers × ℕ) Fault → Type 0
HeadRead text (Ok x) =
    (x.1 ≤ length text)
    × (run sale start (tokens false 0 text)
    ≡ run sale (state x.0 [] (in_head 4)) (tokens (nat_lt 0 x.1) x.1 (drop x.1 text)))
HeadRead text (Err e) = run sale start (tokens false 0 text) ≡ bad e

-- a bar and a closing bracket have been passed
abbrev pub Passed : Sign → ℕ → ℕ → Type 0
Passed (sign.Keys k) a b = Unit {0}
Passed (sign.Timer m) a b = Unit {0}
Passed (sign.Field i) a b = Unit {0}
Passed sign.Hold a b = Unit {0}
Passed sign.SetOpen a b = Unit {0}
Passed sign.Open a b = Unit {0}
Passed sign.Close a b = a < b
Passed sign.Bar a b = a < b
Passed sign.Dot a b = Unit {0}
Passed sign.End a b = Unit {0}
Passed sign.Other a b = Unit {0}

abbrev pub AlternativeRead : List ℕ → ℕ → Cursor → Frame → Draft → Draft → Result (Sign × Cursor) Fault →
    Type 0
AlternativeRead text base c f m w (Ok x) =
    (w.timers ≡ m.timers) × Passed x.0 c.at x.1.at × (x.1.at ≤ length text) × (f.number ≤ 64)
    × (count_ends (drafted w) ≡ f.number)
    × (run sale (state m.timers (drafted m) (in_alternative f fresh)) (rest text base c)
    ≡ went sale (halts m.timers (drafted w) f x.0) (rest text base x.1))
AlternativeRead text base c f m w (Err e) = run sale (state m.timers (drafted m) (in_alternative f fresh))
    (rest text base c) ≡ bad e

abbrev pub ClosedRead : List ℕ → ℕ → Cursor → ℕ → Result (Unit {0}) Fault → Type 0
ClosedRead text base c n (Ok u) = (t : Timers) (ns : List Node) →
    run sale (state t ns (closed n)) (rest text base c) ≡ done t ns
ClosedRead text base c n (Err e) = (t : Timers) (ns : List Node) →
    run sale (state t ns (closed n)) (rest text base c) ≡ bad e

abbrev pub AlternativesRead : List ℕ → ℕ → Bool → Draft → Draft → Result (Unit {0}) Fault → Type 0
AlternativesRead text base j m w (Ok u) =
    (w.timers ≡ m.timers) × (run sale (state m.timers [] (in_head 4)) (tokens j base text)
    ≡ done m.timers (drafted w))
AlternativesRead text base j m w (Err e) = run sale (state m.timers [] (in_head 4)) (tokens j base text)
    ≡ bad e

-- the text's length is in order
abbrev pub sized : List ℕ → Bool
sized text = nat_lt 0 (length text) && nat_le (length text) 2048

abbrev pub reads : List ℕ → Turn
reads text = cond (sized text) (run sale start (tokens false 0 text)) (bad (fault cause.Length 0 0))

abbrev pub DraftRead : List ℕ → Result Draft Fault → Type 0
DraftRead text (Ok m) = reads text ≡ done m.timers (drafted m)
DraftRead text (Err e) = reads text ≡ bad e
