-- Entries behind a code, and which codes are refused. Assumes nothing.
use Rattle.std.specs.Prelude.{◌≡◌, ℕ, ◌<◌, ◌≤◌, Bool, true, false, List, length, slice_index}
use Rattle.keypad.specs.declared.key.Symbol.{Symbol}
use Rattle.keypad.specs.declared.key.Symbol.TheVariants.{Plain}
use Rattle.keypad.specs.Entries.{Entry, Entries}
use Rattle.keypad.specs.Sets.{Same}
use Rattle.plans.specs.declared.refusal.Refusal.{Refusal}
use Rattle.plans.specs.declared.refusal.Refusal.TheVariants.{CodeLength, CodeKey, Width, Lots}
use Rattle.keypad.specs.Sets.{Empty}
use Rattle.plans.specs.Keyed.{behind}

-- the entries of a set, each behind the keys
abbrev pub Behind : List ℕ → Entries → Entries
Behind ks a e = (x : Entry) × a x × (e ≡ behind ks x)

-- some entry at all
abbrev pub Any : Entries → Type 0
Any a = (e : Entry) × a e

-- a code has 1 to 8 keys
abbrev pub Sized : List ℕ → Type 0
Sized ks = (1 ≤ length ks) × (length ks ≤ 8)

-- each number is that of a key, 0 to 15
abbrev pub Keys : List ℕ → Type 0
Keys ks = (k : ℕ) → k < length ks → slice_index ks k ≤ 15

-- why a code is refused: its length is tried first, then its keys
abbrev pub Refused : List ℕ → Refusal → Type 0
Refused ks CodeLength = Sized ks → ⊥
Refused ks CodeKey = Sized ks × (Keys ks → ⊥)
Refused ks Width = ⊥
Refused ks Lots = ⊥

-- a code over a part whose whole was a makes a plan with the whole w and the rest r: the entries of the part
-- behind the code, all of them left; none exactly where the part has none
pub record Coded (ks : List ℕ) (a w r : Entries) : Type 0 where
  pub sized : Sized ks
  pub keys : Keys ks
  pub whole : Same w (Behind ks a)
  pub rest : Same r w
  pub barren : Empty a → Empty w
  pub fertile : Empty w → Empty a

-- yes says that the symbol is the key k and that there is some entry, no that it is not so
abbrev pub Takes : Symbol → ℕ → Entries → Bool → Type 0
Takes s k a true = (s ≡ Plain k) × ∥ Any a ∥₁
Takes s k a false = s ≡ Plain k → Any a → ⊥
