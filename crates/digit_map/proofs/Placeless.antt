-- Tokens are read alike wherever they stand: offsets decide nothing but what a fault tells. Assumes nothing.
use Rattle.std.proofs.Common.{◌≡◌, ℕ, Bool, true, false, cond, not, ◌&&◌, leb, List, [], ◌∷◌, ◌++◌, sym, refl, ap, ◌∙◌, arith, Some, None, Option, Ok, Err, Result}
use Rattle.keypad.specs.declared.key.Mark.{Mark}
use Rattle.keypad.specs.declared.timers.Timers.{Timers}
use Rattle.digit_map.specs.declared.fault.Fault.{Fault}
use Rattle.digit_map.specs.declared.fault.Cause.TheVariants as cause
use Rattle.digit_map.specs.declared.sign.Field.{Field}
use Rattle.digit_map.specs.declared.sign.Sign.{Sign}
use Rattle.digit_map.specs.declared.sign.Sign.TheVariants as sign
use Rattle.digit_map.specs.declared.token.Token.{Token}
use Rattle.digit_map.specs.declared.token.Token.TheVariants.{Byte, Gap, End}
use Rattle.digit_map.specs.declared.node.Node.{Node}
use Rattle.digit_map.specs.declared.set.SetTurn.{SetTurn}
use Rattle.digit_map.specs.declared.set.SetTurn.TheVariants as set
use Rattle.digit_map.specs.declared.head.FieldTurn.{FieldTurn}
use Rattle.digit_map.specs.declared.head.FieldTurn.TheVariants as field
use Rattle.digit_map.specs.declared.head.Digits.TheVariants as digits
use Rattle.digit_map.specs.declared.progress.Last.{Last}
use Rattle.digit_map.specs.declared.progress.Last.TheVariants as last
use Rattle.digit_map.specs.declared.progress.Progress.{Progress}
use Rattle.digit_map.specs.declared.progress.Frame.{Frame}
use Rattle.digit_map.specs.declared.progress.Act.{Act}
use Rattle.digit_map.specs.declared.progress.Act.TheVariants.{Go, Put, AddDot, OpenSet, Halt}
use Rattle.digit_map.specs.Faults.{fault}
use Rattle.digit_map.specs.Signs.{sign_of}
use Rattle.digit_map.specs.Nodes.{position, awaiting, count_positions}
use Rattle.digit_map.specs.Sets.{set_turn}
use Rattle.digit_map.specs.Fields.{rank, field_turn}
use Rattle.digit_map.specs.Limits.{Limits}
use Rattle.digit_map.specs.Acts.{wrong, progress, fresh, first_at, needs_by, onward, unless_held, if_held, in_number_lem}
use Rattle.digit_map.specs.Acts.{has_room, at_dot, at_halt, acts}
use Rattle.digit_map.specs.Turns.{Spot, in_head, in_field, in_alternative, in_set, closed, State, Turn, on}
use Rattle.digit_map.specs.Turns.{done, bad, state, start, frame, halts, acted, turn_alternative}
use Rattle.digit_map.specs.Turns.{turn_head, turn_closed, fielded, in_set_turned, turn_at, turn, run, went}
use Rattle.digit_map.specs.Continues.{placeless, placeless_all}

-- what is read, with each offset put to 0
abbrev bare_last : Last → Last
bare_last last.Nothing = last.Nothing
bare_last last.Mark = last.Mark
bare_last last.Position = last.Position
bare_last last.Dot = last.Dot
bare_last (last.Hold z) = last.Hold 0

abbrev bare_progress : Progress → Progress
bare_progress p = progress p.mark p.marked p.needs 0 (bare_last p.last)

abbrev bare_spot : Spot → Spot
bare_spot (in_head k) = in_head k
bare_spot (in_field i o d) = in_field i 0 d
bare_spot (in_alternative f p) = in_alternative f (bare_progress p)
bare_spot (in_set f p l o q k) = in_set f (bare_progress p) l 0 q k
bare_spot (closed n) = closed n

abbrev bare_state : State → State
bare_state s = state s.timers s.nodes (bare_spot s.spot)

abbrev bare_turn : Turn → Turn
bare_turn (on q) = on (bare_state q)
bare_turn (done t ns) = done t ns
bare_turn (bad f) = bad (fault f.cause 0 f.alternative)

abbrev bare_act : Result Act Fault → Result Act Fault
bare_act (Ok (Go p)) = (Ok (Go (bare_progress p)))
bare_act (Ok (Put x p)) = (Ok (Put x (bare_progress p)))
bare_act (Ok (AddDot p)) = (Ok (AddDot (bare_progress p)))
bare_act (Ok (OpenSet l)) = (Ok (OpenSet l))
bare_act (Ok Halt) = (Ok Halt)
bare_act (Err e) = Err (fault e.cause 0 e.alternative)

cond_map : {A B : Type 0} (f : A → B) (b : Bool) (x y : A) → cond b (f x) (f y) ≡ f (cond b x y)
cond_map f true x y = refl
cond_map f false x y = refl

onward_by : (m : Mark) (h n : Bool) (first o : ℕ) (l last : Last) →
    progress m h (needs_by n (bare_last l)) (first_at 0 0 (bare_last l)) (bare_last last)
    ≡ bare_progress (progress m h (needs_by n l) (first_at first o l) last)
onward_by m h n first o last.Nothing l = refl
onward_by m h n first o last.Mark l = refl
onward_by m h n first o last.Position l = refl
onward_by m h n first o last.Dot l = refl
onward_by m h n first o (last.Hold z) l = refl

onward_bare : (p : Progress) (o : ℕ) (m : Mark) (h : Bool) (l : Last) →
    onward (bare_progress p) 0 m h (bare_last l) ≡ bare_progress (onward p o m h l)
onward_bare p o m h l = onward_by m h p.needs p.first o p.last l

unless_bare : (n : ℕ) (l : Last) (a : Result Act Fault) →
    unless_held n (bare_last l) (bare_act a) ≡ bare_act (unless_held n l a)
unless_bare n last.Nothing a = refl
unless_bare n last.Mark a = refl
unless_bare n last.Position a = refl
unless_bare n last.Dot a = refl
unless_bare n (last.Hold z) a = refl

if_bare : (l : Last) (a b : Result Act Fault) →
    if_held (bare_last l) (bare_act a) (bare_act b) ≡ bare_act (if_held l a b)
if_bare last.Nothing a b = refl
if_bare last.Mark a b = refl
if_bare last.Position a b = refl
if_bare last.Dot a b = refl
if_bare (last.Hold z) a b = refl

dot_bare : (n : ℕ) (p : Progress) (o : ℕ) (l : Last) →
    at_dot n (bare_progress p) 0 (bare_last l) ≡ bare_act (at_dot n p o l)
dot_bare n p o last.Nothing = refl
dot_bare n p o last.Mark = refl
dot_bare n p o last.Position = refl
dot_bare n p o last.Dot = refl
dot_bare n p o (last.Hold z) = refl

module _ (n : ℕ) (p : Progress) (o : ℕ) (here keyless : Bool) where
  abbrev ended : Result Act Fault
  ended = cond here (Ok Halt) (wrong n cause.Byte o)

  ended_bare : cond here (Ok Halt) (wrong n cause.Byte 0) ≡ bare_act ended
  ended_bare = cond_map bare_act here (Ok Halt) (wrong n cause.Byte o)

  judged_bare : cond (keyless && not p.needs) (wrong n cause.Keyless 0)
      (cond here (Ok Halt) (wrong n cause.Byte 0))
      ≡ bare_act (cond (keyless && not p.needs) (wrong n cause.Keyless p.first) ended)
  judged_bare =
      ap (cond (keyless && not p.needs) (wrong n cause.Keyless 0)) ended_bare
      ∙ cond_map bare_act (keyless && not p.needs) (wrong n cause.Keyless p.first) ended

  halt_bare : (l : Last) →
      at_halt n (bare_progress p) 0 here keyless (bare_last l) ≡ bare_act (at_halt n p o here keyless l)
  halt_bare last.Nothing = refl
  halt_bare last.Mark = judged_bare
  halt_bare last.Position = ended_bare
  halt_bare last.Dot = judged_bare
  halt_bare (last.Hold z) = refl

module _ (L : Limits) (f : Frame) (n : ℕ) (p : Progress) (o : ℕ) where
  keys_bare : (k : ℕ) → acts L f n (bare_progress p) (sign.Keys k) 0 ≡ bare_act (acts L f n p (sign.Keys k) o)
  keys_bare k =
      let q : Progress = onward p o p.mark false last.Position in
      ap
      (λ w. if_held (bare_last p.last) (Ok (Put (position k true false) w))
      (cond (has_room L f n) (Ok (Put (position k false false) w)) (wrong f.number cause.Excess 0)))
      (onward_bare p o p.mark false last.Position)
      ∙ (ap (if_held (bare_last p.last) (Ok (Put (position k true false) (bare_progress q))))
      (cond_map bare_act (has_room L f n) (Ok (Put (position k false false) q))
      (wrong f.number cause.Excess o))
      ∙ if_bare p.last (Ok (Put (position k true false) q)) _)

  -- what may begin only where no Z waits
  abbrev begun : Progress → Bool → Progress → ℕ → Result Act Fault
  begun w r v z = unless_held f.number w.last (cond r (Ok (Go v)) (wrong f.number cause.Excess z))

  begun_bare : (r : Bool) (m : Mark) (h : Bool) (l : Last) →
      begun (bare_progress p) r (onward (bare_progress p) 0 m h (bare_last l)) 0
      ≡ bare_act (begun p r (onward p o m h l) o)
  begun_bare r m h l =
      ap (λ w. begun (bare_progress p) r w 0) (onward_bare p o m h l)
      ∙ (ap (unless_held f.number (bare_last p.last))
      (cond_map bare_act r (Ok (Go (onward p o m h l))) (wrong f.number cause.Excess o))
      ∙ unless_bare f.number p.last _)

  acts_bare : (s : Sign) → acts L f n (bare_progress p) s 0 ≡ bare_act (acts L f n p s o)
  acts_bare (sign.Keys k) = keys_bare k
  acts_bare (sign.Timer m) = begun_bare (in_number_lem L f) m true last.Mark
  acts_bare (sign.Field i) = refl
  acts_bare sign.Hold = begun_bare (has_room L f n) p.mark p.marked (last.Hold o)
  acts_bare sign.SetOpen =
      ap (if_held (bare_last p.last) (Ok (OpenSet true)))
      (cond_map bare_act (has_room L f n) (Ok (OpenSet false)) (wrong f.number cause.Excess o))
      ∙ if_bare p.last (Ok (OpenSet true)) _
  acts_bare sign.Open = unless_bare f.number p.last (wrong f.number cause.Byte o)
  acts_bare sign.Close = halt_bare f.number p o f.bracketed true p.last
  acts_bare sign.Bar = halt_bare f.number p o f.bracketed true p.last
  acts_bare sign.Dot = dot_bare f.number p o p.last
  acts_bare sign.End = halt_bare f.number p o (not f.bracketed) (not f.bracketed) p.last
  acts_bare sign.Other = unless_bare f.number p.last (wrong f.number cause.Byte o)

module _ (t : Timers) (ns : List Node) where
  halts_bare : (f : Frame) (s : Sign) → halts t ns f s ≡ bare_turn (halts t ns f s)
  halts_bare f (sign.Keys k) = refl
  halts_bare f (sign.Timer m) = refl
  halts_bare f (sign.Field i) = refl
  halts_bare f sign.Hold = refl
  halts_bare f sign.SetOpen = refl
  halts_bare f sign.Open = refl
  halts_bare f sign.Close = refl
  halts_bare f sign.Bar = refl
  halts_bare f sign.Dot = refl
  halts_bare f sign.End = refl
  halts_bare f sign.Other = refl

  closed_bare : (n o : ℕ) (s : Sign) → turn_closed t ns n s 0 ≡ bare_turn (turn_closed t ns n s o)
  closed_bare n o (sign.Keys k) = refl
  closed_bare n o (sign.Timer m) = refl
  closed_bare n o (sign.Field i) = refl
  closed_bare n o sign.Hold = refl
  closed_bare n o sign.SetOpen = refl
  closed_bare n o sign.Open = refl
  closed_bare n o sign.Close = refl
  closed_bare n o sign.Bar = refl
  closed_bare n o sign.Dot = refl
  closed_bare n o sign.End = refl
  closed_bare n o sign.Other = refl

fielded_bare : (t : Timers) (i : Field) (at : ℕ) (x : Option FieldTurn) →
    fielded t i 0 x ≡ bare_turn (fielded t i at x)
fielded_bare t i at (Some (field.On d)) = refl
fielded_bare t i at (Some (field.Done v)) = refl
fielded_bare t i at None = refl

done_bare : (t : Timers) (ns : List Node) (x : Turn) → bare_turn x ≡ done t ns → x ≡ done t ns
done_bare t ns (on q) e = let z : ◌≡◌ {A = ℕ} 0 1 = cc in absurd (omega arith)
done_bare t ns (done u us) e = e
done_bare t ns (bad f) e = let z : ◌≡◌ {A = ℕ} 0 1 = cc in absurd (omega arith)

module _ (L : Limits) where
  module _ (t : Timers) (ns : List Node) (f : Frame) (p : Progress) where
    acted_bare : (s : Sign) (o : ℕ) (a : Result Act Fault) →
        acted t ns f (bare_progress p) s 0 (bare_act a) ≡ bare_turn (acted t ns f p s o a)
    acted_bare s o (Ok (Go q)) = refl
    acted_bare s o (Ok (Put x q)) = refl
    acted_bare s o (Ok (AddDot q)) = refl
    acted_bare s o (Ok (OpenSet l)) = refl
    acted_bare s o (Ok Halt) = halts_bare t _ f s
    acted_bare s o (Err e) = refl

    alternative_bare : (s : Sign) (o : ℕ) →
        turn_alternative L t ns f (bare_progress p) s 0 ≡ bare_turn (turn_alternative L t ns f p s o)
    alternative_bare s o =
        ap (acted t ns f (bare_progress p) s 0) (acts_bare L f (count_positions ns) p o s)
        ∙ acted_bare s o (acts L f (count_positions ns) p s o)

    set_bare : (l : Bool) (at : ℕ) (x : Option SetTurn) →
        in_set_turned t ns f (bare_progress p) l 0 x ≡ bare_turn (in_set_turned t ns f p l at x)
    set_bare l at (Some (set.On q k)) = refl
    set_bare l at (Some (set.Done k)) =
        let x : Node = awaiting (position k l false) p.mark p.marked in
        ap (λ w. on (state t (ns ++ x ∷ []) (in_alternative f w)))
        (onward_bare p at p.mark false last.Position)
    set_bare l at None = refl

  head_bare : (t : Timers) (k o : ℕ) (s : Sign) → turn_head L t k s 0 ≡ bare_turn (turn_head L t k s o)
  head_bare t k o (sign.Keys m) = alternative_bare t [] (frame false 1) fresh (sign.Keys m) o
  head_bare t k o (sign.Timer m) = alternative_bare t [] (frame false 1) fresh (sign.Timer m) o
  head_bare t k o (sign.Field i) =
      cond_map bare_turn (leb k (rank i)) (on (state t [] (in_field i o digits.Letter)))
      (bad (fault cause.Head o 0))
  head_bare t k o sign.Hold = alternative_bare t [] (frame false 1) fresh sign.Hold o
  head_bare t k o sign.SetOpen = alternative_bare t [] (frame false 1) fresh sign.SetOpen o
  head_bare t k o sign.Open = refl
  head_bare t k o sign.Close = alternative_bare t [] (frame false 1) fresh sign.Close o
  head_bare t k o sign.Bar = alternative_bare t [] (frame false 1) fresh sign.Bar o
  head_bare t k o sign.Dot = alternative_bare t [] (frame false 1) fresh sign.Dot o
  head_bare t k o sign.End = alternative_bare t [] (frame false 1) fresh sign.End o
  head_bare t k o sign.Other = alternative_bare t [] (frame false 1) fresh sign.Other o

  turn_bare : (t : Timers) (ns : List Node) (s : Spot) (x : Token) →
      turn_at L t ns (bare_spot s) (placeless x) ≡ bare_turn (turn_at L t ns s x)
  turn_bare t ns (in_head k) (Byte b c o) = head_bare t k o (sign_of b c)
  turn_bare t ns (in_head k) (Gap o) = refl
  turn_bare t ns (in_head k) (End o) = head_bare t k o sign.End
  turn_bare t ns (in_field i at d) (Byte b c o) = fielded_bare t i at (field_turn i d b)
  turn_bare t ns (in_field i at d) (Gap o) = refl
  turn_bare t ns (in_field i at d) (End o) = refl
  turn_bare t ns (in_alternative f p) (Byte b c o) = alternative_bare t ns f p (sign_of b c) o
  turn_bare t ns (in_alternative f p) (Gap o) = refl
  turn_bare t ns (in_alternative f p) (End o) = alternative_bare t ns f p sign.End o
  turn_bare t ns (in_set f p l at q k) (Byte b c o) = set_bare t ns f p l at (set_turn q k b)
  turn_bare t ns (in_set f p l at q k) (Gap o) = refl
  turn_bare t ns (in_set f p l at q k) (End o) = refl
  turn_bare t ns (closed n) (Byte b c o) = closed_bare t ns n o (sign_of b c)
  turn_bare t ns (closed n) (Gap o) = refl
  turn_bare t ns (closed n) (End o) = refl

  went_bare : (ts : List Token) →
      ((s : State) → run L (bare_state s) (placeless_all ts) ≡ bare_turn (run L s ts)) → (x : Turn) →
      went L (bare_turn x) (placeless_all ts) ≡ bare_turn (went L x ts)
  went_bare ts below (on q) = below q
  went_bare ts below (done t ns) = refl
  went_bare ts below (bad f) = refl

  -- tokens without their offsets are read alike
  run_bare : (ts : List Token) (s : State) → run L (bare_state s) (placeless_all ts) ≡ bare_turn (run L s ts)
  run_bare [] s = refl
  run_bare (x ∷ ts) s =
      ap (λ w. went L w (placeless_all ts)) (turn_bare s.timers s.nodes s.spot x)
      ∙ went_bare ts (run_bare ts) (turn L s x)

  -- of two texts alike but for their offsets, both are read to their end or none is
  pub alike_done : (xs ys : List Token) (t : Timers) (ns : List Node) → placeless_all xs ≡ placeless_all ys →
      run L start ys ≡ done t ns → run L start xs ≡ done t ns
  alike_done xs ys t ns e h =
      done_bare t ns (run L start xs)
      (sym (run_bare xs start) ∙ (ap (run L start) e ∙ (run_bare ys start ∙ ap bare_turn h)))

pub placeless_join : (xs ys : List Token) → placeless_all (xs ++ ys) ≡ placeless_all xs ++ placeless_all ys
placeless_join [] ys = refl
placeless_join (x ∷ xs) ys = ap (λ w. placeless x ∷ w) (placeless_join xs ys)

-- tokens alike, with the same tokens behind them
pub alike_more : (xs ys more : List Token) → placeless_all xs ≡ placeless_all ys →
    placeless_all (xs ++ more) ≡ placeless_all (ys ++ more)
alike_more xs ys more e =
    placeless_join xs more ∙ (ap (λ w. w ++ placeless_all more) e ∙ sym (placeless_join ys more))
