-- The front of an entry: its first symbol, its mark, and what is behind it. Assumes nothing.
use Rattle.std.specs.Prelude.{◌≡◌, ℕ, false, List, [], ◌∷◌, ◌≢◌, refl}
use Rattle.std.proofs.Common.{sym, ap, arith}
use Rattle.keypad.specs.declared.key.Symbol.{Symbol}
use Rattle.keypad.specs.declared.key.Symbol.TheVariants as symbol
use Rattle.keypad.specs.declared.key.Mark.{Mark}
use Rattle.keypad.specs.declared.key.Mark.TheVariants.{Unmarked}
use Rattle.keypad.specs.Entries.{Step, Entry, step, ended, prepend}
use Rattle.plans.specs.Keyed.{behind}

pub no_steps : (s : Step) (ss : List Step) → [] ≢ s ∷ ss
no_steps s ss p = let z : ◌≡◌ {A = ℕ} 0 1 = cc in omega arith

-- the first mark, or else the closing
abbrev first_mark_lem : Mark → List Step → Mark
first_mark_lem m [] = m
first_mark_lem m (s ∷ ss) = s.mark

abbrev pub awaited : Entry → Mark
awaited e = first_mark_lem e.closing e.steps

abbrev pub first_symbol : List Step → Symbol
first_symbol [] = symbol.Long 0
first_symbol (s ∷ ss) = s.symbol

abbrev rest_of : List Step → List Step
rest_of [] = []
rest_of (s ∷ ss) = ss

abbrev pub behind_first : Entry → Entry
behind_first e = record { steps = rest_of e.steps; closing = e.closing; held = e.held }

abbrev pub key : Symbol → ℕ
key (symbol.Plain k) = k
key (symbol.Long k) = k

-- keys are awaited unmarked
pub awaited_behind : (ks : List ℕ) → awaited (behind ks (ended Unmarked false)) ≡ Unmarked
awaited_behind [] = refl
awaited_behind (k ∷ ks) = refl

-- no entry of plain keys begins with a long one
pub never_long : (ks : List ℕ) (d : ℕ) (m : Mark) (e : Entry)
    → prepend (step (symbol.Long d) m) e ≢ behind ks (ended Unmarked false)
never_long [] d m e p = no_steps _ _ (sym (ap (λ (x : Entry). x.steps) p))
never_long (k ∷ ks) d m e p =
    let q : symbol.Long d ≡ symbol.Plain k = ap (λ (x : Entry). first_symbol x.steps) p in
    let z : ◌≡◌ {A = ℕ} 0 1 = cc in omega arith
