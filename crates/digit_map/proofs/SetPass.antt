-- A set is taken as the grammar has it. Assumes nothing.
use Rattle.std.proofs.Common.{◌≡◌, ℕ, ◌-◌, ◌^◌, ◌≤◌, Bool, true, false, List, [], ◌∷◌, ◌++◌, refl, ap, ◌∙◌, arith, Some}
use lib.Bits.{bit_or}
use Rattle.std.proofs.lemmas.Bool.Decides.{nat_tests}
use Rattle.keypad.specs.declared.timers.Timers.{Timers}
use Rattle.digit_map.specs.declared.token.Token.{Token}
use Rattle.digit_map.specs.declared.token.Token.TheVariants.{Byte}
use Rattle.digit_map.specs.declared.node.Node.{Node}
use Rattle.digit_map.specs.declared.set.Place.{Place}
use Rattle.digit_map.specs.declared.set.Place.TheVariants.{Start, Member, Digit, From}
use Rattle.digit_map.specs.declared.set.SetTurn.TheVariants.{On, Done}
use Rattle.digit_map.specs.declared.progress.Last.TheVariants as last
use Rattle.digit_map.specs.declared.progress.Progress.{Progress}
use Rattle.digit_map.specs.declared.progress.Frame.{Frame}
use Rattle.digit_map.specs.Bytes.{digit, key_letter_lem, letter_key}
use Rattle.digit_map.specs.Nodes.{position, awaiting}
use Rattle.digit_map.specs.Sets.{span, set_turn}
use Rattle.digit_map.specs.Limits.{Limits}
use Rattle.digit_map.specs.Acts.{onward}
use Rattle.digit_map.specs.Turns.{State, on, state, in_set, in_alternative, in_set_turned, run}
use Rattle.digit_map.specs.Grammar as g
use Rattle.digit_map.specs.Grammar.{Members, none, more, one_digit, one_letter, range}
use Rattle.digit_map.specs.Standing as st
use Rattle.digit_map.specs.Standing.{Inside}
use Rattle.digit_map.proofs.Runs.{run_on, run_step, run_chain}

-- the keys with a digit that waits
abbrev pub flushed : Place → ℕ → ℕ
flushed Start m = m
flushed Member m = m
flushed (Digit d) m = bit_or m (2 ^ d)
flushed (From d) m = m

-- a member may begin
abbrev pub Free : Place → Type 0
Free Start = Unit {0}
Free Member = Unit {0}
Free (Digit d) = Unit {0}
Free (From d) = ⊥

-- the set may close
abbrev pub Closing : Place → Type 0
Closing Start = ⊥
Closing Member = Unit {0}
Closing (Digit d) = Unit {0}
Closing (From d) = ⊥

pub free : (p : Place) → Closing p → Free p
free Start h = absurd h
free Member h = tt
free (Digit d) h = tt
free (From d) h = absurd h

digit_turn : (p : Place) (m a : ℕ) → Free p → digit a ≡ true →
    set_turn p m a ≡ Some (On (Digit (a - 48)) (flushed p m))
digit_turn Start m a h e = grind (arith, nat_tests)
digit_turn Member m a h e = grind (arith, nat_tests)
digit_turn (Digit d) m a h e = grind (arith, nat_tests)
digit_turn (From d) m a h e = absurd h

letter_turn : (p : Place) (m a : ℕ) → Free p → key_letter_lem a ≡ true →
    set_turn p m a ≡ Some (On Member (bit_or (flushed p m) (2 ^ letter_key a)))
letter_turn Start m a h e = grind (arith, nat_tests)
letter_turn Member m a h e = grind (arith, nat_tests)
letter_turn (Digit d) m a h e = grind (arith, nat_tests)
letter_turn (From d) m a h e = absurd h

range_turn : (a b m : ℕ) → digit a ≡ true → digit b ≡ true → a ≤ b → set_turn (From (a - 48)) m b
    ≡ Some (On Member (bit_or m (span (a - 48) (b - 48))))
range_turn a b m e f h = grind (arith, nat_tests)

close_turn : (p : Place) (m : ℕ) → Closing p → set_turn p m 93 ≡ Some (Done (flushed p m))
close_turn Start m h = absurd h
close_turn Member m h = refl
close_turn (Digit d) m h = refl
close_turn (From d) m h = absurd h

module _ (L : Limits) (t : Timers) (ns : List Node) (f : Frame) (p : Progress) (l : Bool) (at : ℕ) where
  abbrev inside : Place → ℕ → State
  inside q k = state t ns (in_set f p l at q k)

  -- a byte inside a set
  byte_pass : (q w : Place) (k n b : ℕ) (c : Bool) (o : ℕ) → set_turn q k b ≡ Some (On w n) →
      run L (inside q k) (Byte b c o ∷ []) ≡ on (inside w n)
  byte_pass q w k n b c o e = run_on L (inside q k) (inside w n) (Byte b c o) []
      (ap (in_set_turned t ns f p l at) e)

  -- where members have been passed, with the keys n
  pub record Passed (q : Place) (k : ℕ) (u : List Token) (n : ℕ) : Type 0 where
    pub stop : Place
    pub keys : ℕ
    pub closing : Closing stop
    pub all : flushed stop keys ≡ n
    pub goes : run L (inside q k) u ≡ on (inside stop keys)

  range_pass : (q : Place) (k : ℕ) → Free q →
      (a : ℕ) (c : Bool) (o : ℕ) (d : Bool) (w : ℕ) (b : ℕ) (e : Bool) (z : ℕ) →
      digit a ≡ true → digit b ≡ true → a ≤ b →
      run L (inside q k) (Byte a c o ∷ Byte 45 d w ∷ Byte b e z ∷ [])
      ≡ on (inside Member (bit_or (flushed q k) (span (a - 48) (b - 48))))
  range_pass q k h a c o d w b e z x y le =
      run_chain L (Byte a c o ∷ []) (Byte 45 d w ∷ Byte b e z ∷ []) (inside q k)
      (inside (Digit (a - 48)) (flushed q k)) _
      (byte_pass q _ k _ a c o (digit_turn q k a h x))
      (run_chain L (Byte 45 d w ∷ []) (Byte b e z ∷ []) (inside (Digit (a - 48)) (flushed q k))
      (inside (From (a - 48)) (flushed q k)) _ refl
      (byte_pass (From (a - 48)) Member (flushed q k) _ b e z (range_turn a b (flushed q k) x y le)))

  pub member_pass : (q : Place) (k : ℕ) → Free q → {u : List Token} {n : ℕ} → g.Member u n →
      Passed q k u (bit_or (flushed q k) n)
  member_pass q k h (one_digit a c o e) =
      record {
        stop = Digit (a - 48);
        keys = flushed q k;
        closing = tt;
        all = refl;
        goes =
            byte_pass q _ k _ a c o (digit_turn q k a h e);
      }
  member_pass q k h (one_letter a c o e) =
      record {
        stop = Member;
        keys = bit_or (flushed q k) (2 ^ letter_key a);
        closing = tt;
        all = refl;
        goes =
            byte_pass q _ k _ a c o (letter_turn q k a h e);
      }
  member_pass q k h (range a c o d w b e z x y le) =
      record {
        stop = Member;
        keys = bit_or (flushed q k) (span (a - 48) (b - 48));
        closing = tt;
        all = refl;
        goes = range_pass q k h a c o d w b e z x y le;
      }

  pub record Begun (u : List Token) (n : ℕ) : Type 0 where
    pub stop : Place
    pub keys : ℕ
    pub open_to : Free stop
    pub all : flushed stop keys ≡ n
    pub goes : run L (inside Start 0) u ≡ on (inside stop keys)

  pub members_pass : {u : List Token} {n : ℕ} → Members u n → Begun u n
  members_pass none = record { stop = Start; keys = 0; open_to = tt; all = refl; goes = refl }
  members_pass (more {s = s} {t = u} {m = m} {n = n} ms x) =
      let b : Begun s m = members_pass ms in
      let y : Passed b.stop b.keys u (bit_or (flushed b.stop b.keys) n) =
      member_pass b.stop b.keys b.open_to x in
      record {
        stop = y.stop;
        keys = y.keys;
        open_to = free y.stop y.closing;
        all = y.all ∙ ap (λ k. bit_or k n) b.all;
        goes = run_chain L s u (inside Start 0) (inside b.stop b.keys) _ b.goes y.goes;
      }

  -- a set from behind its opening bracket to behind its closing one
  pub set_pass : {s u : List Token} {m n : ℕ} → Members s m → g.Member u n → (d : Bool) (w : ℕ) →
      run L (inside Start 0) ((s ++ u) ++ Byte 93 d w ∷ [])
      ≡ on (state t (ns ++ awaiting (position (bit_or m n) l false) p.mark p.marked ∷ [])
      (in_alternative f (onward p at p.mark false last.Position)))
  set_pass {s = s} {u = u} {m = m} {n = n} ms x d w =
      let b : Begun s m = members_pass ms in
      let y : Passed b.stop b.keys u (bit_or (flushed b.stop b.keys) n) =
      member_pass b.stop b.keys b.open_to x in
      let e : flushed y.stop y.keys ≡ bit_or m n = y.all ∙ ap (λ k. bit_or k n) b.all in
      run_step L (s ++ u) (Byte 93 d w) (inside Start 0) (inside y.stop y.keys) _
      (run_chain L s u (inside Start 0) (inside b.stop b.keys) _ b.goes y.goes)
      (ap (in_set_turned t ns f p l at) (close_turn y.stop y.keys y.closing)
      ∙ ap (λ k. in_set_turned t ns f p l at (Some (Done k))) e)

  -- the inside of a set as far as it is read
  pub inside_pass : {v : List Token} {q : Place} {k : ℕ} → Inside v q k → run L (inside Start 0) v
      ≡ on (inside q k)
  inside_pass st.start = refl
  inside_pass (st.letter {s = s} {m = m} ms a c o e) =
      let b : Begun s m = members_pass ms in
      run_chain L s (Byte a c o ∷ []) (inside Start 0) (inside b.stop b.keys) _ b.goes
      (byte_pass b.stop Member b.keys _ a c o
      (letter_turn b.stop b.keys a b.open_to e
      ∙ ap (λ k. Some (On Member (bit_or k (2 ^ letter_key a)))) b.all))
  inside_pass (st.digit_more {s = s} {m = m} ms a c o e) =
      let b : Begun s m = members_pass ms in
      run_chain L s (Byte a c o ∷ []) (inside Start 0) (inside b.stop b.keys) _ b.goes
      (byte_pass b.stop _ b.keys _ a c o
      (digit_turn b.stop b.keys a b.open_to e ∙ ap (λ k. Some (On (Digit (a - 48)) k)) b.all))
  inside_pass (st.hyphen {s = s} {m = m} ms a c o e d w) =
      let b : Begun s m = members_pass ms in
      run_chain L s (Byte a c o ∷ Byte 45 d w ∷ []) (inside Start 0) (inside b.stop b.keys) _ b.goes
      (run_chain L (Byte a c o ∷ []) (Byte 45 d w ∷ []) (inside b.stop b.keys)
      (inside (Digit (a - 48)) m) _
      (byte_pass b.stop _ b.keys _ a c o
      (digit_turn b.stop b.keys a b.open_to e ∙ ap (λ k. Some (On (Digit (a - 48)) k)) b.all)) refl)
  inside_pass (st.range {s = s} {m = m} ms a c o d w b e z x y le) =
      let r : Begun s m = members_pass ms in
      run_chain L s (Byte a c o ∷ Byte 45 d w ∷ Byte b e z ∷ []) (inside Start 0)
      (inside r.stop r.keys) _ r.goes
      (range_pass r.stop r.keys r.open_to a c o d w b e z x y le
      ∙ ap (λ k. on (inside Member (bit_or k (span (a - 48) (b - 48))))) r.all)
