-- Keys that are told one behind another, and that the same entries are told the same way. Assumes nothing.
use Rattle.std.proofs.Common.{◌≡◌, ℕ, Bool, true, false, List, [], ◌∷◌, ◌++◌, refl, append_assoc}
use Rattle.keypad.proofs.Sames.{same_refl}
use Rattle.keypad.specs.Answers.{Pressed}
use Rattle.keypad.specs.Entries.{Entries}
use Rattle.keypad.specs.Sets.{Same, Starts, Ended, Settled, GoesOn}
use Rattle.keypad.specs.declared.key.Symbol.{Symbol}
use Rattle.plans.specs.Questions.{starts, ends, settles, goes, tells_same, timing_same, pressed_same}
use Rattle.plan_report.specs.declared.standing.Standing.{Standing}
use Rattle.plan_report.specs.Keys.{LineTold, KeyTold}
use Rattle.plan_report.specs.Listings.{Listed, symbols}
use Rattle.plan_report.specs.Rows.{following, RowTold}
use Rattle.plan_report.specs.Standings.{Stands}

-- what the same entries answer
pub stands_same : (a b : Entries) (st : Standing) → Same a b → Stands a st → Stands b st
stands_same a b st s h = record {
  ended = tells_same Ended ends a b st.ended s h.ended;
  settled = tells_same Settled settles a b st.settled s h.settled;
  going = tells_same GoesOn goes a b st.going s h.going;
  mark = timing_same a b st.mark s h.mark;
}

-- which symbols the same entries open
pub listed_same : (a b : Entries) (ss : List Symbol) (bs : List ℕ) → Same a b → Listed a ss bs →
    Listed b ss bs
listed_same a b [] bs s h = h
listed_same a b (x ∷ ss) bs s h = (
  h.0,
  h.1,
  tells_same (λ z. Starts z x) (starts x) a b h.0 s h.2,
  listed_same a b ss h.1 s h.3,
  h.4,
)

-- the line of the same entries
pub line_same : (a b : Entries) (s : Symbol) (opens taken : Bool) (bs : List ℕ) → Same a b →
    LineTold a s opens taken bs → LineTold b s opens taken bs
line_same a b s opens taken bs same h = record {
  standing = h.standing;
  stands = stands_same a b h.standing same h.stands;
  names = h.names;
  next = listed_same a b symbols h.names same h.next;
  tells = h.tells;
}

-- a key between the same entries
pub key_same : (a b x y : Entries) (s : Symbol) (bs : List ℕ) → Same a b → Same x y → KeyTold a x s bs →
    KeyTold b y s bs
key_same a b x y s bs p q h = record {
  opens = h.opens;
  opened = tells_same (λ z. Starts z s) (starts s) a b h.opens p h.opened;
  taken = h.taken;
  pressed = pressed_same a b x y s h.taken p q h.pressed;
  line = line_same x y s h.opens h.taken bs q h.line;
}

-- what is left of the same entries
pub following_same : (a b : Entries) (s : Symbol) (taken : Bool) → Same a b →
    Same (following a s taken) (following b s taken)
following_same a b s true p = λ e. (λ h. (h.0, (p _).0 h.1), λ h. (h.0, (p _).1 h.1))
following_same a b s false p = p

-- a row at the same entries
pub row_same : (a b : Entries) (ss : List Symbol) (bs : List ℕ) → Same a b → RowTold a ss bs → RowTold b ss bs
row_same a b [] bs p h = h
row_same a b (s ∷ ss) bs p h =
    let q = following_same a b s h.0 p in
    let x : Entries = following a s h.0 in
    let y : Entries = following b s h.0 in
    (h.0, h.1, h.2, key_same a b x y s h.1 p q h.3, row_same x y ss h.2 q h.4, h.5)

-- a press leaves what follows
pub pressed_follows : (a b : Entries) (s : Symbol) (taken : Bool) → Pressed a s taken b →
    Same b (following a s taken)
pressed_follows a b s true h = h.1
pressed_follows a b s false h = h.1

-- a key and then the row behind it
pub row_key : (a b : Entries) (s : Symbol) (ss : List Symbol) (x y : List ℕ) → KeyTold a b s x →
    RowTold b ss y → RowTold a (s ∷ ss) (x ++ y)
row_key a b s ss x y k h =
    let after : Entries = following a s k.taken in
    let p : Same b after = pressed_follows a b s k.taken k.pressed in
    (k.taken, x, y, key_same a a b after s x (same_refl a) p k, row_same b after ss y p h, refl)

module _ (start : Entries) (all : List Symbol) where
  -- out has the lines of all keys but the ones left, and then the entries a are left
  abbrev pub RowUpto : Entries → List ℕ → List Symbol → Type 0
  RowUpto a out left = (bs : List ℕ) → RowTold a left bs → RowTold start all (out ++ bs)

  -- one key more is told
  pub row_more : (a b : Entries) (out grown x : List ℕ) (left ss : List Symbol) (s : Symbol) →
      RowUpto a out left → left ≡ s ∷ ss → KeyTold a b s x → grown ≡ out ++ x → RowUpto b grown ss
  row_more a b out grown x left ss s so_far e k g bs h =
      rw (g, append_assoc) (so_far (x ++ bs) (rw e (row_key a b s ss x bs k h)))
