-- The same entries are told in one way only. Assumes nothing.
use Rattle.std.proofs.Common.{◌≡◌, ℕ, Bool, true, false, List, [], ◌∷◌, sym, refl, ◌∙◌, subst}
use mathlib.Core.HLevel.{⊥_prop}
use mathlib.Core.Logic.{∥∥₁_elim}
use Rattle.keypad.specs.Answers.{Tells, Pressed, Timing}
use Rattle.keypad.specs.Entries.{Entries}
use Rattle.keypad.specs.Sets.{Same, Starts, After, Ended, Settled, GoesOn, Under}
use Rattle.keypad.specs.declared.key.Mark.{Mark}
use Rattle.keypad.specs.declared.key.Mark.TheVariants.{Unmarked, Short, Long}
use Rattle.keypad.specs.declared.key.Symbol.{Symbol}
use Rattle.plan_report.specs.declared.standing.Standing.{Standing}
use Rattle.plan_report.specs.Keys.{LineTold, KeyTold}
use Rattle.plan_report.specs.Listings.{Listed, symbols}
use Rattle.plan_report.specs.Rows.{following, RowTold}
use Rattle.plan_report.specs.Standings.{Stands}
use Rattle.plan_report.proofs.Rows.{line_same, row_same}

-- what holds, if only somehow, is not denied
not_denied : (P : Type 0) → ∥ P ∥₁ → (P → ⊥) → ⊥
not_denied P h none = ∥∥₁_elim h ⊥_prop none

-- one answer to a question
tells_one : (P : Type 0) (x y : Bool) → Tells P x → Tells P y → x ≡ y
tells_one P true true h k = refl
tells_one P true false h k = absurd (not_denied P h k)
tells_one P false true h k = absurd (not_denied P k h)
tells_one P false false h k = refl

timing_one : (a : Entries) (m n : Mark) → Timing a m → Timing a n → m ≡ n
timing_one a Long Long h k = refl
timing_one a Long Short h k = absurd (not_denied (Under a Long) h k.0)
timing_one a Long Unmarked h k = absurd (not_denied (Under a Long) h k.0)
timing_one a Short Long h k = absurd (not_denied (Under a Long) k h.0)
timing_one a Short Short h k = refl
timing_one a Short Unmarked h k = absurd (not_denied (Under a Short) h.1 k.1)
timing_one a Unmarked Long h k = absurd (not_denied (Under a Long) k h.0)
timing_one a Unmarked Short h k = absurd (not_denied (Under a Short) k.1 h.1)
timing_one a Unmarked Unmarked h k = refl

standing : Bool → Bool → Bool → Mark → Standing
standing e s g m = record { ended = e; settled = s; going = g; mark = m }

-- one way to stand
stands_one : (a : Entries) (s t : Standing) → Stands a s → Stands a t → s ≡ t
unfolding standing
stands_one a s t h k =
    let e = tells_one (Ended a) s.ended t.ended h.ended k.ended in
    let f = tells_one (Settled a) s.settled t.settled h.settled k.settled in
    let g = tells_one (GoesOn a) s.going t.going h.going k.going in
    let m = timing_one a s.mark t.mark h.mark k.mark in
    let same : standing s.ended s.settled s.going s.mark
    ≡ standing t.ended t.settled t.going t.mark = cc in
    same

-- one list of the open symbols
listed_one : (a : Entries) (ss : List Symbol) (x y : List ℕ) → Listed a ss x → Listed a ss y → x ≡ y
listed_one a [] x y h k = h ∙ sym k
listed_one a (s ∷ ss) x y h k =
    let opens = tells_one (Starts a s) h.0 k.0 h.2 k.2 in
    let rest = listed_one a ss h.1 k.1 h.3 k.3 in
    cc (h.4, k.4, opens, rest)

-- one line for a key that was answered so
line_one : (a : Entries) (s : Symbol) (opens taken : Bool) (x y : List ℕ) → LineTold a s opens taken x →
    LineTold a s opens taken y → x ≡ y
line_one a s opens taken x y h k =
    let stands = stands_one a h.standing k.standing h.stands k.stands in
    let names = listed_one a symbols h.names k.names h.next k.next in
    cc (h.tells, k.tells, stands, names)

-- one answer to a press
pressed_one : (a b c : Entries) (s : Symbol) (x y : Bool) → Pressed a s x b → Pressed a s y c → x ≡ y
pressed_one a b c s true true h k = refl
pressed_one a b c s true false h k = absurd (not_denied (Starts a s) h.0 k.0)
pressed_one a b c s false true h k = absurd (not_denied (Starts a s) k.0 h.0)
pressed_one a b c s false false h k = refl

-- sets that are the same as one are the same
same_one : (a b c : Entries) → Same a c → Same b c → Same a b
same_one a b c s t e = (λ h. (t e).1 ((s e).0 h), λ h. (s e).1 ((t e).0 h))

-- one rest behind a press
rest_one : (a b c : Entries) (s : Symbol) (x : Bool) → Pressed a s x b → Pressed a s x c → Same b c
rest_one a b c s true h k = same_one b c (After a s) h.1 k.1
rest_one a b c s false h k = same_one b c a h.1 k.1

module _ (a b c : Entries) (s : Symbol) (x y : List ℕ) (h : KeyTold a b s x) (k : KeyTold a c s y) where
  key_taken : k.taken ≡ h.taken
  key_taken = pressed_one a c b s k.taken h.taken k.pressed h.pressed

  -- one rest behind a key
  key_rest : Same b c
  key_rest =
      rest_one a b c s h.taken h.pressed (subst (λ (t : Bool). Pressed a s t c) key_taken k.pressed)

  -- one line for a key
  key_one : x ≡ y
  key_one =
      let opens = tells_one (Starts a s) k.opens h.opens k.opened h.opened in
      let moved = line_same c b s k.opens k.taken y (λ e. ((key_rest e).1, (key_rest e).0)) k.line in
      let line = subst (λ (t : Bool). LineTold b s h.opens t y) key_taken
      (subst (λ (o : Bool). LineTold b s o k.taken y) opens moved) in
      line_one b s h.opens h.taken x y h.line line

-- one text for a row
pub row_one : (a b : Entries) (ss : List Symbol) (x y : List ℕ) → Same b a → RowTold a ss x → RowTold b ss y →
    x ≡ y
row_one a b [] x y p h k = h ∙ sym k
row_one a b (s ∷ ss) x y p h k =
    let m : RowTold a (s ∷ ss) y = row_same b a (s ∷ ss) y p k in
    let first : Entries = following a s h.0 in
    let second : Entries = following a s m.0 in
    let key = key_one a first second s h.1 m.1 h.3 m.3 in
    let same = key_rest a first second s h.1 m.1 h.3 m.3 in
    let rest = row_one first second ss h.2 m.2 (λ e. ((same e).1, (same e).0)) h.4 m.4 in
    cc (h.5, m.5, key, rest)
