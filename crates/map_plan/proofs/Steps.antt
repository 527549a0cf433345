-- Entries that start with equal steps, or with none. Assumes nothing.
use Rattle.std.proofs.Common.{◌≡◌, ℕ, Bool, List, [], ◌∷◌, ap, arith}
use Rattle.keypad.specs.declared.key.Symbol.{Symbol}
use Rattle.keypad.specs.declared.key.Mark.{Mark}
use Rattle.keypad.specs.Entries.{Step, Entry, step, ended, prepend}

-- the first step of an entry
abbrev first_step : Step → List Step → Step
first_step d [] = d
first_step d (s ∷ ss) = s

-- an entry with its first step removed
abbrev steps_on : List Step → List Step
steps_on [] = []
steps_on (s ∷ ss) = ss

abbrev step_removed : Entry → Entry
step_removed e = record { steps = steps_on e.steps; closing = e.closing; held = e.held }

-- equal entries that start with a step
module _ (s t : Symbol) (m n : Mark) (e f : Entry) (q : prepend (step s m) e ≡ prepend (step t n) f) where
  pub same_symbol : s ≡ t
  same_symbol = ap (λ (x : Entry). (first_step (step s m) x.steps).symbol) q

  pub same_step_mark : m ≡ n
  same_step_mark = ap (λ (x : Entry). (first_step (step s m) x.steps).mark) q

  pub same_behind : e ≡ f
  same_behind = ap step_removed q

pub never_ended : (m : Mark) (h : Bool) (s : Step) (e : Entry) → ended m h ≡ prepend s e → ⊥
never_ended m h s e q =
    let a : ◌≡◌ {A = List Step} [] (s ∷ e.steps) = ap (λ (x : Entry). x.steps) q in
    let z : ◌≡◌ {A = ℕ} 0 1 = cc in omega arith
