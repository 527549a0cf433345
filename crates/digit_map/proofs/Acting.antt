-- The run over an alternative, token by token. Assumes nothing.
use Rattle.std.proofs.Common.{◌≡◌, ℕ, ◌+◌, ◌<◌, ◌≤◌, Bool, true, false, not, List, [], ◌∷◌, ◌++◌, length, Ok, Err, Result, sym, refl, ap, ◌∙◌, subst, arith}
use Rattle.keypad.specs.declared.timers.Timers.{Timers}
use Rattle.digit_map.specs.declared.fault.Fault.{Fault}
use Rattle.digit_map.specs.declared.sign.Sign.{Sign}
use Rattle.digit_map.specs.declared.sign.Sign.TheVariants as sign
use Rattle.digit_map.specs.declared.token.Token.{Token}
use Rattle.digit_map.specs.declared.token.Token.TheVariants.{Byte, Gap, End}
use Rattle.digit_map.specs.declared.token.Cursor.{Cursor}
use Rattle.digit_map.specs.declared.node.Position.{Position}
use Rattle.digit_map.specs.declared.node.Node.{Node}
use Rattle.digit_map.specs.declared.draft.Draft.{Draft}
use Rattle.digit_map.specs.declared.progress.Last.{Last}
use Rattle.digit_map.specs.declared.progress.Last.TheVariants as last
use Rattle.digit_map.specs.declared.progress.Progress.{Progress}
use Rattle.digit_map.specs.declared.progress.Frame.{Frame}
use Rattle.digit_map.specs.declared.progress.Act.{Act}
use Rattle.digit_map.specs.declared.progress.Act.TheVariants.{Go, Put, AddDot, OpenSet, Halt}
use Rattle.digit_map.specs.Signs.{sign_of}
use Rattle.digit_map.specs.Tokens.{rest, behind, Moves, Next}
use Rattle.digit_map.specs.Nodes.{position, awaiting, ending, count_positions, count_ends, dot_last_lem}
use Rattle.digit_map.specs.Drafts.{drafted}
use Rattle.digit_map.specs.Limits.{sale}
use Rattle.digit_map.specs.Acts.{fresh, onward, at_halt, acts}
use Rattle.digit_map.specs.Rooms.{Room, RoomFor}
use Rattle.digit_map.specs.Turns.{Turn, in_alternative, state, by_sign, halts, acted}
use Rattle.digit_map.specs.Turns.{turn_alternative, run, went}
use Rattle.digit_map.specs.Reads.{sign_at, SetRead, Passed, AlternativeRead}
use Rattle.digit_map.proofs.Places.{positions_push, ends_push}
use Rattle.digit_map.proofs.NodeLaws.{positions_dot_last, ends_dot_last}

same_ok : {A : Type 0} (x y : A) → ◌≡◌ {A = Result A Fault} (Ok x) (Ok y) → x ≡ y
same_ok x y h = cc

-- a token that has a sign
pub by_sign_ok : (n : ℕ) (g : Sign → ℕ → Turn) (x : Token) (s : Sign) (o : ℕ)
    → Ok (s, o) ≡ sign_at n x → by_sign n g x ≡ g s o
by_sign_ok n g (Byte b c o) s k h = ap (λ (r : Sign × ℕ). g r.0 r.1)
    (sym (same_ok (s, k) (sign_of b c, o) h))
by_sign_ok n g (Gap o) s k h = cc
by_sign_ok n g (End o) s k h = ap (λ (r : Sign × ℕ). g r.0 r.1) (sym (same_ok (s, k) (sign.End, o) h))

pub is_end : (n : ℕ) (s : Sign) (o q : ℕ) → Ok (s, o) ≡ sign_at n (End q) → s ≡ sign.End
is_end n s o q h = ap (λ (r : Sign × ℕ). r.0) (same_ok (s, o) (sign.End, q) h)

-- behind what it does, the alternative goes on
abbrev goes : Result Act Fault → Bool
goes (Ok (Go q)) = true
goes (Ok (Put x q)) = true
goes (Ok (AddDot q)) = true
goes (Ok (OpenSet l)) = true
goes (Ok Halt) = false
goes (Err e) = false

halt_stops : (n : ℕ) (p : Progress) (o : ℕ) (here judged : Bool) (l : Last)
    → goes (at_halt n p o here judged l) ≡ false
halt_stops n p o here judged last.Nothing = refl
halt_stops n p o here judged last.Mark = grind arith
halt_stops n p o here judged last.Position = grind arith
halt_stops n p o here judged last.Dot = grind arith
halt_stops n p o here judged (last.Hold z) = refl

-- at the text's end an alternative does not go on
end_stops : (f : Frame) (count : ℕ) (p : Progress) (s : Sign) (o : ℕ) (a : Result Act Fault)
    → a ≡ acts sale f count p s o → s ≡ sign.End → goes a ≡ false
end_stops f count p s o a e z =
    ap goes (e ∙ ap (λ r. acts sale f count p r o) z)
    ∙ halt_stops f.number p o (not f.bracketed) (not f.bracketed) p.last

-- one that goes on has taken a byte
module _ (f : Frame) (count : ℕ) (p : Progress) (n : ℕ) (s : Sign) (o : ℕ) (a : Result Act Fault)
    (goes_on : goes a ≡ true) (e : a ≡ acts sale f count p s o) where
  goes_behind : (text : List ℕ) (base : ℕ) (c : Cursor) (x : Token) → Ok (s, o) ≡ sign_at n x
      → behind text base x c ≡ rest text base c
  goes_behind text base c (Byte b k q) h = refl
  goes_behind text base c (Gap q) h = cc
  goes_behind text base c (End q) h = let z = end_stops f count p s o a e (is_end n s o q h) in cc

  goes_moves : (from to : ℕ) (x : Token) → Ok (s, o) ≡ sign_at n x → Moves x from to → from < to
  goes_moves from to (Byte b k q) h m = m
  goes_moves from to (Gap q) h m = let z : ◌≡◌ {A = ℕ} 0 1 = cc in omega arith
  goes_moves from to (End q) h m =
      let z = end_stops f count p s o a e (is_end n s o q h) in
      let u : ◌≡◌ {A = ℕ} 0 1 = cc in
      omega arith

passed : (s : Sign) (low to : ℕ) → low < to → Passed s low to
passed (sign.Keys k) low to h = tt
passed (sign.Timer m) low to h = tt
passed (sign.Field i) low to h = tt
passed sign.Hold low to h = tt
passed sign.SetOpen low to h = tt
passed sign.Open low to h = tt
passed sign.Close low to h = h
passed sign.Bar low to h = h
passed sign.Dot low to h = tt
passed sign.End low to h = tt
passed sign.Other low to h = tt

module _ (n : ℕ) (s : Sign) (o : ℕ) where
  halts_passed : (low from to : ℕ) (x : Token) → Ok (s, o) ≡ sign_at n x
      → low ≤ from → Moves x from to → Passed s low to
  halts_passed low from to (Byte b k q) h l m = passed s low to (omega (arith, m))
  halts_passed low from to (Gap q) h l m = let z : ◌≡◌ {A = ℕ} 0 1 = cc in absurd (omega arith)
  halts_passed low from to (End q) h l m = subst (λ r. Passed r low to) (sym (is_end n s o q h)) tt

  -- behind the text's end nothing is read
  halts_behind : (t : Timers) (ns : List Node) (f : Frame) (text : List ℕ) (base : ℕ) (c : Cursor) (x : Token)
      → Ok (s, o) ≡ sign_at n x
      → went sale (halts t ns f s) (behind text base x c) ≡ went sale (halts t ns f s) (rest text base c)
  halts_behind t ns f text base c (Byte b k q) h = refl
  halts_behind t ns f text base c (Gap q) h = cc
  halts_behind t ns f text base c (End q) h =
      let z = is_end n s o q h in
      ap (λ r. went sale (halts t ns f r) []) z
      ∙ sym (ap (λ r. went sale (halts t ns f r) (rest text base c)) z)

-- the run from a cursor on, in an alternative read so far
abbrev onwards : List ℕ → ℕ → Frame → Timers → List Node → Progress → Cursor → Turn
onwards text base f t ns p c = run sale (state t ns (in_alternative f p)) (rest text base c)

-- an alternative from the cursor c on, of which the part up to b is read, the map grown from m to w
pub record AlternativeUpTo (text : List ℕ) (base : ℕ) (c : Cursor) (f : Frame) (m : Draft) (b : Cursor)
    (w : Draft)
    (p : Progress) : Type 0 where
  pub low : c.at ≤ b.at
  pub high : b.at ≤ length text
  pub timers : w.timers ≡ m.timers
  pub room : Room f.number (count_positions (drafted w)) p.last
  pub ends : count_ends (drafted w) + 1 ≡ f.number
  pub is : run sale (state m.timers (drafted m) (in_alternative f fresh)) (rest text base c)
      ≡ run sale (state m.timers (drafted w) (in_alternative f p)) (rest text base b)

few : (n count : ℕ) (l : Last) → Room n count l → count ≤ 255
few n count last.Nothing h = h.1
few n count last.Mark h = h.1
few n count last.Position h = h.1
few n count last.Dot h = h.1
few n count (last.Hold z) h = omega (arith, h.1)

module _ {text : List ℕ} {base : ℕ} {c : Cursor} {f : Frame} {m : Draft} {b : Cursor} {w : Draft}
    {p : Progress}
    (i : AlternativeUpTo text base c f m b w p) where
  pub few_before : count_positions (drafted w) ≤ 255
  few_before = few f.number (count_positions (drafted w)) p.last i.room

  pub few_behind : (v : Draft) → drafted v ≡ drafted w ++ ending p.mark p.marked ∷ []
      → count_positions (drafted v) ≤ 255
  few_behind v n =
      let z = ap count_positions n ∙ positions_push (drafted w) (ending p.mark p.marked) in
      omega (arith, few_before)

module _ {text : List ℕ} {base : ℕ} {c : Cursor} {f : Frame} {m : Draft} {b : Cursor} {w : Draft}
    {p : Progress}
    {x : Token} {after : Cursor} (i : AlternativeUpTo text base c f m b w p) (next : Next text base b x after)
    {s : Sign} {o count : ℕ} (g : Ok (s, o) ≡ sign_at f.number x)
    (k : count ≡ count_positions (drafted w)) where
  acted_by : (a : Result Act Fault) → a ≡ acts sale f count p s o
      → onwards text base f m.timers (drafted m) fresh c
      ≡ went sale (acted m.timers (drafted w) f p s o a) (behind text base x after)
  acted_by a e =
      let h = by_sign_ok f.number (turn_alternative sale m.timers (drafted w) f p) x s o g in
      let q = sym (e ∙ ap (λ n. acts sale f n p s o) k) in
      i.is
      ∙ (ap (run sale (state m.timers (drafted w) (in_alternative f p))) next.is
      ∙ ap (λ (r : Turn). went sale r (behind text base x after))
      (h ∙ ap (λ (r : Result Act Fault). acted m.timers (drafted w) f p s o r) q))

  goes_by : (a : Result Act Fault) → a ≡ acts sale f count p s o → goes a ≡ true
      → onwards text base f m.timers (drafted m) fresh c
      ≡ went sale (acted m.timers (drafted w) f p s o a) (rest text base after)
  goes_by a e h =
      let z = goes_behind f count p f.number s o a h e text base after x g in
      acted_by a e ∙ ap (went sale (acted m.timers (drafted w) f p s o a)) z

  moved : (a : Result Act Fault) → a ≡ acts sale f count p s o → goes a ≡ true → b.at < after.at
  moved a e h = goes_moves f count p f.number s o a h e b.at after.at x g next.moves

  -- the map has grown to v, with j more positions, and the reader is at d
  grown : (q : Progress) (v : Draft) (d : Cursor) (j : ℕ) → b.at ≤ d.at → d.at ≤ length text
      → count_positions (drafted v) ≡ count_positions (drafted w) + j →
      count_ends (drafted v) ≡ count_ends (drafted w)
      → Room f.number (count + j) q.last → v.timers ≡ w.timers
      → onwards text base f m.timers (drafted m) fresh c ≡ onwards text base f m.timers (drafted v) q d
      → AlternativeUpTo text base c f m d v q
  grown q v d j up within more same h t r =
      let l = i.low in let n = i.ends in
      let u : count + j ≡ count_positions (drafted v) = omega arith in
      record {
        low = omega arith;
        high = within;
        timers = t ∙ i.timers;
        room = subst (λ r. Room f.number r q.last) u h;
        ends = omega arith;
        is = r;
      }

  -- one position more
  pushed : (y : Position) (q : Progress) (v : Draft) (d : Cursor) → b.at ≤ d.at → d.at ≤ length text
      → drafted v ≡ drafted w ++ awaiting y p.mark p.marked ∷ []
      → Room f.number (count + 1) q.last → v.timers ≡ w.timers
      → onwards text base f m.timers (drafted m) fresh c
      ≡ onwards text base f m.timers (drafted w ++ awaiting y p.mark p.marked ∷ []) q d
      → AlternativeUpTo text base c f m d v q
  pushed y q v d up within n h t r =
      let z = ends_push (drafted w) (awaiting y p.mark p.marked) in
      let same : count_ends (drafted v) ≡ count_ends (drafted w) = ap count_ends n ∙ omega arith in
      grown q v d 1 up within (ap count_positions n ∙ positions_push (drafted w) _) same h t
      (r ∙ ap (λ ns. onwards text base f m.timers ns q d) (sym n))

  pub alternative_put : {y : Position} {q : Progress} {v : Draft} → Ok (Put y q) ≡ acts sale f count p s o
      → RoomFor f.number count (Ok (Put y q)) → drafted v ≡ drafted w ++ awaiting y p.mark p.marked ∷ []
      → v.timers ≡ w.timers → AlternativeUpTo text base c f m after v q
  alternative_put {y} {q} {v} e h n t =
      let d = moved (Ok (Put y q)) e refl in
      pushed y q v after (omega arith) next.high n h.2 t (goes_by (Ok (Put y q)) e refl)

  pub alternative_dot : {q : Progress} {v : Draft} → Ok (AddDot q) ≡ acts sale f count p s o
      → RoomFor f.number count (Ok (AddDot q)) → drafted v ≡ dot_last_lem (drafted w)
      → v.timers ≡ w.timers → AlternativeUpTo text base c f m after v q
  alternative_dot {q} {v} e h n t =
      let d = moved (Ok (AddDot q)) e refl in
      let z = positions_dot_last (drafted w) in
      let none : count ≡ count + 0 = omega arith in
      let more : count_positions (drafted v) ≡ count_positions (drafted w) + 0 = ap count_positions n
      ∙ omega arith in
      grown q v after 0 (omega arith) next.high more (ap count_ends n ∙ ends_dot_last (drafted w))
      (subst (λ r. Room f.number r q.last) none h) t
      (goes_by (Ok (AddDot q)) e refl ∙ ap (λ ns. onwards text base f m.timers ns q after) (sym n))

  module _ {l : Bool} (keys : ℕ) (d : Cursor) (e : Ok (OpenSet l) ≡ acts sale f count p s o)
      (r : SetRead text base after o f.number (Ok (keys, d))) where
    pub alternative_set : {v : Draft} → RoomFor f.number count (Ok (OpenSet l))
        → drafted v ≡ drafted w ++ awaiting (position keys l false) p.mark p.marked ∷ [] →
        v.timers ≡ w.timers
        → AlternativeUpTo text base c f m d v (onward p o p.mark false last.Position)
    alternative_set {v} h n t =
        let u = moved (Ok (OpenSet l)) e refl in let a = r.0 in
        pushed (position keys l false) (onward p o p.mark false last.Position) v d (omega arith) r.1 n
        (h.0, omega (arith, h.1)) t (goes_by (Ok (OpenSet l)) e refl ∙ r.2 m.timers (drafted w) f p l refl)

  pub alternative_halt : (v : Draft) → Ok Halt ≡ acts sale f count p s o → RoomFor f.number count (Ok Halt)
      → drafted v ≡ drafted w ++ ending p.mark p.marked ∷ [] → v.timers ≡ w.timers
      → AlternativeRead text base c f m v (Ok (s, after))
  alternative_halt v e h n t =
      let z = ending p.mark p.marked in (
        t ∙ i.timers,
        halts_passed f.number s o c.at b.at after.at x g i.low next.moves,
        next.high,
        h.0,
        ap count_ends n ∙ ends_push (drafted w) z ∙ i.ends,
        acted_by (Ok Halt) e
            ∙ (halts_behind f.number s o m.timers (drafted w ++ z ∷ []) f text base after x g
            ∙ ap (λ ns. went sale (halts m.timers ns f s) (rest text base after)) (sym n)),
      )
