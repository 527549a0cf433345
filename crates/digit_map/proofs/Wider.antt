-- Other limits: where no fault has shown none shows, and a fault not of the limits stays. Assumes nothing.
use Rattle.std.proofs.Common.{◌≡◌, ℕ, ◌≤◌, Bool, false, cond, List, [], sym, refl, ap, subst, arith, Ok, Err, Result}
use Rattle.std.proofs.lemmas.Bool.{cond_both}
use Rattle.keypad.specs.declared.timers.Timers.{Timers}
use Rattle.digit_map.specs.declared.fault.Fault.{Fault}
use Rattle.digit_map.specs.declared.fault.Cause.TheVariants as cause
use Rattle.digit_map.specs.declared.sign.Sign.{Sign}
use Rattle.digit_map.specs.declared.sign.Sign.TheVariants as sign
use Rattle.digit_map.specs.declared.token.Token.{Token}
use Rattle.digit_map.specs.declared.token.Token.TheVariants.{Byte, Gap, End}
use Rattle.digit_map.specs.declared.node.Node.{Node}
use Rattle.digit_map.specs.declared.progress.Last.{Last}
use Rattle.digit_map.specs.declared.progress.Last.TheVariants as last
use Rattle.digit_map.specs.declared.progress.Progress.{Progress}
use Rattle.digit_map.specs.declared.progress.Frame.{Frame}
use Rattle.digit_map.specs.declared.progress.Act.{Act}
use Rattle.digit_map.specs.declared.progress.Act.TheVariants.{Go, Put, AddDot, OpenSet, Halt}
use Rattle.digit_map.specs.Signs.{sign_of}
use Rattle.digit_map.specs.Nodes.{count_positions}
use Rattle.digit_map.specs.Limits.{Limits}
use Rattle.digit_map.specs.Acts.{wrong, fresh, unless_held, if_held, in_number_lem, has_room, acts}
use Rattle.digit_map.specs.Turns.{Spot, in_head, in_field, in_alternative, in_set, closed, Turn, on, done}
use Rattle.digit_map.specs.Turns.{bad, frame, acted, turn_alternative, turn_head, turn_at}
use Rattle.digit_map.specs.Standing.{InLimits, Limited}

module _ (L M : Limits) (h : L.alternatives ≤ M.alternatives) (k : L.positions ≤ M.positions) where
  wider_last : (n count : ℕ) (l : Last) → InLimits L n count l → InLimits M n count l
  wider_last n count last.Nothing x = let a = x.0 in let b = x.1 in (omega arith, omega arith)
  wider_last n count last.Mark x = let a = x.0 in let b = x.1 in (omega arith, omega arith)
  wider_last n count last.Position x = let a = x.0 in let b = x.1 in (omega arith, omega arith)
  wider_last n count last.Dot x = let a = x.0 in let b = x.1 in (omega arith, omega arith)
  wider_last n count (last.Hold z) x = let a = x.0 in let b = x.1 in (omega arith, omega arith)

  pub wider : (ns : List Node) (s : Spot) → Limited L ns s → Limited M ns s
  wider ns (in_head i) x = tt
  wider ns (in_field i o d) x = tt
  wider ns (in_alternative f p) x = wider_last f.number (count_positions ns) p.last x
  wider ns (in_set f p l o q i) x = let a = x.0 in let b = x.1 in (omega arith, omega arith)
  wider ns (closed n) x = let a = x.0 in let b = x.1 in (omega arith, omega arith)

-- the second turn is the first, where that is a fault which is not of the limits
abbrev pub Firm : Turn → Turn → Type 0
Firm (on q) y = Unit {0}
Firm (done t ns) y = Unit {0}
Firm (bad f) y = (f.cause ≡ cause.Excess → ⊥) → y ≡ bad f

firm_same : (x : Turn) → Firm x x
firm_same (on q) = tt
firm_same (done t ns) = tt
firm_same (bad f) = λ h. refl

-- so of what a sign does, where an alternative's end stays too
abbrev FirmAct : Result Act Fault → Result Act Fault → Type 0
FirmAct (Ok (Go p)) y = Unit {0}
FirmAct (Ok (Put x p)) y = Unit {0}
FirmAct (Ok (AddDot p)) y = Unit {0}
FirmAct (Ok (OpenSet l)) y = Unit {0}
FirmAct (Ok Halt) y = y ≡ Ok Halt
FirmAct (Err e) y = (e.cause ≡ cause.Excess → ⊥) → y ≡ Err e

act_same : (a : Result Act Fault) → FirmAct a a
act_same (Ok (Go p)) = tt
act_same (Ok (Put x p)) = tt
act_same (Ok (AddDot p)) = tt
act_same (Ok (OpenSet l)) = tt
act_same (Ok Halt) = refl
act_same (Err e) = λ h. refl

room_firm : (n : ℕ) (r : Bool) (a : Result Act Fault) (o : ℕ) (y : Result Act Fault) → FirmAct a y →
    FirmAct (cond r a (wrong n cause.Excess o)) y
room_firm n r a o y h =
    cond_both r a (wrong n cause.Excess o) (λ v. FirmAct v y) (λ e. h) (λ e k. absurd (k refl))

unless_firm : (n : ℕ) (l : Last) (a b : Result Act Fault) → FirmAct a b →
    FirmAct (unless_held n l a) (unless_held n l b)
unless_firm n last.Nothing a b h = h
unless_firm n last.Mark a b h = h
unless_firm n last.Position a b h = h
unless_firm n last.Dot a b h = h
unless_firm n (last.Hold z) a b h = λ e. refl

if_firm : (l : Last) (x a b : Result Act Fault) → FirmAct a b → FirmAct (if_held l x a) (if_held l x b)
if_firm last.Nothing x a b h = h
if_firm last.Mark x a b h = h
if_firm last.Position x a b h = h
if_firm last.Dot x a b h = h
if_firm (last.Hold z) x a b h = act_same x

module _ (L M : Limits) where
  acts_firm : (f : Frame) (n : ℕ) (p : Progress) (s : Sign) (o : ℕ) →
      FirmAct (acts L f n p s o) (acts M f n p s o)
  acts_firm f n p (sign.Keys k) o = if_firm p.last _ _ _ (room_firm f.number (has_room L f n) _ o _ tt)
  acts_firm f n p (sign.Timer m) o =
      unless_firm f.number p.last _ _ (room_firm f.number (in_number_lem L f) _ o _ tt)
  acts_firm f n p (sign.Field i) o = λ h. refl
  acts_firm f n p sign.Hold o = unless_firm f.number p.last _ _ (room_firm f.number (has_room L f n) _ o _ tt)
  acts_firm f n p sign.SetOpen o = if_firm p.last _ _ _ (room_firm f.number (has_room L f n) _ o _ tt)
  acts_firm f n p sign.Open o = act_same (acts L f n p sign.Open o)
  acts_firm f n p sign.Close o = act_same (acts L f n p sign.Close o)
  acts_firm f n p sign.Bar o = act_same (acts L f n p sign.Bar o)
  acts_firm f n p sign.Dot o = act_same (acts L f n p sign.Dot o)
  acts_firm f n p sign.End o = act_same (acts L f n p sign.End o)
  acts_firm f n p sign.Other o = act_same (acts L f n p sign.Other o)

  module _ (t : Timers) (ns : List Node) (f : Frame) (p : Progress) (s : Sign) (o : ℕ) where
    abbrev does : Result Act Fault → Turn
    does = acted t ns f p s o

    acted_firm : (a b : Result Act Fault) → FirmAct a b → Firm (does a) (does b)
    acted_firm (Ok (Go q)) b h = tt
    acted_firm (Ok (Put x q)) b h = tt
    acted_firm (Ok (AddDot q)) b h = tt
    acted_firm (Ok (OpenSet l)) b h = tt
    acted_firm (Ok Halt) b h = subst (Firm (does (Ok Halt))) (ap does (sym h)) (firm_same (does (Ok Halt)))
    acted_firm (Err e) b h = λ k. ap does (h k)

    alternative_firm : Firm (turn_alternative L t ns f p s o) (turn_alternative M t ns f p s o)
    alternative_firm = acted_firm _ _ (acts_firm f (count_positions ns) p s o)

  head_firm : (t : Timers) (k : ℕ) (s : Sign) (o : ℕ) → Firm (turn_head L t k s o) (turn_head M t k s o)
  head_firm t k (sign.Keys m) o = alternative_firm t [] (frame false 1) fresh (sign.Keys m) o
  head_firm t k (sign.Timer m) o = alternative_firm t [] (frame false 1) fresh (sign.Timer m) o
  head_firm t k (sign.Field i) o = firm_same (turn_head L t k (sign.Field i) o)
  head_firm t k sign.Hold o = alternative_firm t [] (frame false 1) fresh sign.Hold o
  head_firm t k sign.SetOpen o = alternative_firm t [] (frame false 1) fresh sign.SetOpen o
  head_firm t k sign.Open o = tt
  head_firm t k sign.Close o = alternative_firm t [] (frame false 1) fresh sign.Close o
  head_firm t k sign.Bar o = alternative_firm t [] (frame false 1) fresh sign.Bar o
  head_firm t k sign.Dot o = alternative_firm t [] (frame false 1) fresh sign.Dot o
  head_firm t k sign.End o = alternative_firm t [] (frame false 1) fresh sign.End o
  head_firm t k sign.Other o = alternative_firm t [] (frame false 1) fresh sign.Other o

  -- a token's fault that is not of the limits shows under any limits
  pub turn_firm : (t : Timers) (ns : List Node) (s : Spot) (x : Token) →
      Firm (turn_at L t ns s x) (turn_at M t ns s x)
  turn_firm t ns (in_head k) (Byte b c o) = head_firm t k (sign_of b c) o
  turn_firm t ns (in_head k) (Gap o) = λ h. refl
  turn_firm t ns (in_head k) (End o) = head_firm t k sign.End o
  turn_firm t ns (in_field i at d) x = firm_same (turn_at L t ns (in_field i at d) x)
  turn_firm t ns (in_alternative f p) (Byte b c o) = alternative_firm t ns f p (sign_of b c) o
  turn_firm t ns (in_alternative f p) (Gap o) = λ h. refl
  turn_firm t ns (in_alternative f p) (End o) = alternative_firm t ns f p sign.End o
  turn_firm t ns (in_set f p l at q k) x = firm_same (turn_at L t ns (in_set f p l at q k) x)
  turn_firm t ns (closed n) x = firm_same (turn_at L t ns (closed n) x)
