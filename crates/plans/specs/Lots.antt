-- The entries of the listed lots of a width, and what remains of them. Assumes nothing.
use Rattle.std.specs.Prelude.{◌≡◌, ℕ, ◌-◌, ◌/◌, ◌%◌, ◌^◌, ◌<◌, ◌≤◌, false, List, length}
use Rattle.std.specs.List.{ContainsAt as Has}
use Rattle.keypad.specs.declared.key.Mark.TheVariants.{Unmarked}
use Rattle.keypad.specs.Entries.{Entry, Entries, ended}
use Rattle.keypad.specs.Sets.{Same}
use Rattle.plans.specs.declared.refusal.Refusal.{Refusal}
use Rattle.plans.specs.declared.refusal.Refusal.TheVariants.{CodeLength, CodeKey, Width, Lots}
use Rattle.keypad.specs.Sets.{Empty}
use Rattle.plans.specs.Keyed.{behind}
use Rattle.plans.specs.Writings.{writing}

-- the entry of n in w digits: its writing, unmarked and not held
abbrev pub numbered : ℕ → ℕ → Entry
numbered w n = behind (writing w n) (ended Unmarked false)

-- n is listed, and fits w digits
abbrev pub Fitting : List ℕ → ℕ → ℕ → Type 0
Fitting ns w n = Has ns n × (n < 10 ^ w)

-- the entries of the listed numbers that fit w digits
abbrev pub listed : List ℕ → ℕ → Entries
listed ns w e = (n : ℕ) × Fitting ns w n × (e ≡ numbered w n)

-- of these, what remains of those whose first t digits write p
abbrev pub listed_after : List ℕ → ℕ → ℕ → ℕ → Entries
listed_after ns w t p e =
    (n : ℕ) × Fitting ns w n × (n / 10 ^ (w - t) ≡ p) × (e ≡ numbered (w - t) (n % 10 ^ (w - t)))

-- some listed number fits w digits, and its first t digits write p
abbrev pub Begins : List ℕ → ℕ → ℕ → ℕ → Type 0
Begins ns w t p = (n : ℕ) × Fitting ns w n × (n / 10 ^ (w - t) ≡ p)

-- a width of 1 to 6 digits
abbrev pub GoodWidth : ℕ → Type 0
GoodWidth w = (1 ≤ w) × (w ≤ 6)

-- why a plan of these lots is refused: the width is tried first
abbrev pub LotsRefused : List ℕ → ℕ → Refusal → Type 0
LotsRefused ns w Width = GoodWidth w → ⊥
LotsRefused ns w Lots = GoodWidth w × (4096 < length ns)
LotsRefused ns w CodeLength = ⊥
LotsRefused ns w CodeKey = ⊥

-- a plan of these lots was made: it admits exactly their entries, all of them remain, and there is none
-- exactly where no listed number fits
pub record LotsMade (ns : List ℕ) (w : ℕ) (whole rest : Entries) : Type 0 where
  pub wide : GoodWidth w
  pub few : length ns ≤ 4096
  pub admits : Same whole (listed ns w)
  pub rewound : Same rest whole
  pub barren : Empty whole → (n : ℕ) → Fitting ns w n → ⊥
  pub empty : ((n : ℕ) → Fitting ns w n → ⊥) → Empty whole
