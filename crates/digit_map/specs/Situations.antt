-- Where a token stands, in the words that its faults are told in. Assumes nothing.
use Rattle.std.specs.Prelude.{◌≡◌, ℕ, ◌≤◌, Bool, false}
use Rattle.digit_map.specs.declared.sign.Field.{Field}
use Rattle.digit_map.specs.declared.sign.Sign.{Sign}
use Rattle.digit_map.specs.declared.sign.Sign.TheVariants as sign
use Rattle.digit_map.specs.declared.token.Token.{Token}
use Rattle.digit_map.specs.declared.token.Token.TheVariants.{Byte, Gap, End}
use Rattle.digit_map.specs.declared.progress.Last.{Last}
use Rattle.digit_map.specs.declared.progress.Last.TheVariants as last
use Rattle.digit_map.specs.Signs.{sign_of}
use Rattle.digit_map.specs.Fields.{rank}
use Rattle.digit_map.specs.Turns.{Spot, in_head, in_field, in_alternative, in_set, closed}

-- the sign of a token; a misplaced run of blanks has none of its own
abbrev pub token_sign_lem : Token → Sign
token_sign_lem (Byte b c o) = sign_of b c
token_sign_lem (Gap o) = sign.Other
token_sign_lem (End o) = sign.End

-- a byte or the text's end, and no run of blanks
abbrev pub Solid : Token → Type 0
Solid (Byte b c o) = Unit {0}
Solid (Gap o) = ⊥
Solid (End o) = Unit {0}

-- the alternative being read
abbrev pub number_at : Spot → ℕ
number_at (in_head k) = 1
number_at (in_field i o d) = 1
number_at (in_alternative f p) = f.number
number_at (in_set f p l o q k) = f.number
number_at (closed n) = n

-- no set is open
abbrev pub Outside : Spot → Type 0
Outside (in_head k) = Unit {0}
Outside (in_field i o d) = Unit {0}
Outside (in_alternative f p) = Unit {0}
Outside (in_set f p l o q k) = ⊥
Outside (closed n) = Unit {0}

-- a field of this kind may begin
abbrev pub FieldMay : Field → Spot → Type 0
FieldMay i (in_head k) = k ≤ rank i
FieldMay i (in_field j o d) = ⊥
FieldMay i (in_alternative f p) = ⊥
FieldMay i (in_set f p l o q k) = ⊥
FieldMay i (closed n) = ⊥

-- in a field whose letter has the offset
abbrev pub InField : ℕ → Spot → Type 0
InField at (in_head k) = ⊥
InField at (in_field i o d) = o ≡ at
InField at (in_alternative f p) = ⊥
InField at (in_set f p l o q k) = ⊥
InField at (closed n) = ⊥

-- in a set whose opening bracket has the offset
abbrev pub InSet : ℕ → Spot → Type 0
InSet at (in_head k) = ⊥
InSet at (in_field i o d) = ⊥
InSet at (in_alternative f p) = ⊥
InSet at (in_set f p l o q k) = o ≡ at
InSet at (closed n) = ⊥

-- right behind a position
abbrev pub LastPosition : Last → Type 0
LastPosition last.Nothing = ⊥
LastPosition last.Mark = ⊥
LastPosition last.Position = Unit {0}
LastPosition last.Dot = ⊥
LastPosition (last.Hold z) = ⊥

-- right behind a Z with the offset
abbrev pub LastHold : ℕ → Last → Type 0
LastHold at last.Nothing = ⊥
LastHold at last.Mark = ⊥
LastHold at last.Position = ⊥
LastHold at last.Dot = ⊥
LastHold at (last.Hold z) = z ≡ at

-- not behind a Z
abbrev pub LastFree : Last → Type 0
LastFree last.Nothing = Unit {0}
LastFree last.Mark = Unit {0}
LastFree last.Position = Unit {0}
LastFree last.Dot = Unit {0}
LastFree (last.Hold z) = ⊥

-- behind one or more elements none of which needs a key
abbrev pub LastNeedless : Bool → Last → Type 0
LastNeedless needs last.Nothing = ⊥
LastNeedless needs last.Mark = needs ≡ false
LastNeedless needs last.Position = ⊥
LastNeedless needs last.Dot = needs ≡ false
LastNeedless needs (last.Hold z) = ⊥

abbrev pub BehindPosition : Spot → Type 0
BehindPosition (in_head k) = ⊥
BehindPosition (in_field i o d) = ⊥
BehindPosition (in_alternative f p) = LastPosition p.last
BehindPosition (in_set f p l o q k) = ⊥
BehindPosition (closed n) = ⊥

abbrev pub BehindHold : ℕ → Spot → Type 0
BehindHold at (in_head k) = ⊥
BehindHold at (in_field i o d) = ⊥
BehindHold at (in_alternative f p) = LastHold at p.last
BehindHold at (in_set f p l o q k) = ⊥
BehindHold at (closed n) = ⊥

-- in an alternative and not behind a Z
abbrev pub AtElement : Spot → Type 0
AtElement (in_head k) = ⊥
AtElement (in_field i o d) = ⊥
AtElement (in_alternative f p) = LastFree p.last
AtElement (in_set f p l o q k) = ⊥
AtElement (closed n) = ⊥

-- a bar or a closing bracket, or the text's end where no bracket is open
abbrev pub Ends : Bool → Sign → Type 0
Ends bracketed (sign.Keys k) = ⊥
Ends bracketed (sign.Timer m) = ⊥
Ends bracketed (sign.Field i) = ⊥
Ends bracketed sign.Hold = ⊥
Ends bracketed sign.SetOpen = ⊥
Ends bracketed sign.Open = ⊥
Ends bracketed sign.Close = Unit {0}
Ends bracketed sign.Bar = Unit {0}
Ends bracketed sign.Dot = ⊥
Ends bracketed sign.End = bracketed ≡ false
Ends bracketed sign.Other = ⊥

-- an alternative that needs no key, and whose first byte has the offset, ends with the sign
abbrev pub EndsNeedless : ℕ → Sign → Spot → Type 0
EndsNeedless at s (in_head k) = ⊥
EndsNeedless at s (in_field i o d) = ⊥
EndsNeedless at s (in_alternative f p) = LastNeedless p.needs p.last × (p.first ≡ at) × Ends
    f.bracketed s
EndsNeedless at s (in_set f p l o q k) = ⊥
EndsNeedless at s (closed n) = ⊥

-- a key, x or an opening square bracket
abbrev pub TakesZ : Sign → Type 0
TakesZ (sign.Keys k) = Unit {0}
TakesZ (sign.Timer m) = ⊥
TakesZ (sign.Field i) = ⊥
TakesZ sign.Hold = ⊥
TakesZ sign.SetOpen = Unit {0}
TakesZ sign.Open = ⊥
TakesZ sign.Close = ⊥
TakesZ sign.Bar = ⊥
TakesZ sign.Dot = ⊥
TakesZ sign.End = ⊥
TakesZ sign.Other = ⊥

-- the first byte of a position, its Z included
abbrev pub BeginsPosition : Sign → Type 0
BeginsPosition (sign.Keys k) = Unit {0}
BeginsPosition (sign.Timer m) = ⊥
BeginsPosition (sign.Field i) = ⊥
BeginsPosition sign.Hold = Unit {0}
BeginsPosition sign.SetOpen = Unit {0}
BeginsPosition sign.Open = ⊥
BeginsPosition sign.Close = ⊥
BeginsPosition sign.Bar = ⊥
BeginsPosition sign.Dot = ⊥
BeginsPosition sign.End = ⊥
BeginsPosition sign.Other = ⊥

-- the first byte of an element: of a position, or a mark
abbrev pub BeginsElement : Sign → Type 0
BeginsElement (sign.Keys k) = Unit {0}
BeginsElement (sign.Timer m) = Unit {0}
BeginsElement (sign.Field i) = ⊥
BeginsElement sign.Hold = Unit {0}
BeginsElement sign.SetOpen = Unit {0}
BeginsElement sign.Open = ⊥
BeginsElement sign.Close = ⊥
BeginsElement sign.Bar = ⊥
BeginsElement sign.Dot = ⊥
BeginsElement sign.End = ⊥
BeginsElement sign.Other = ⊥
