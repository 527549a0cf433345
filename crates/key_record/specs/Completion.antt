-- A dial string that a press completes, and one that is on its way. Assumes nothing.
use Rattle.std.specs.Prelude.{◌≡◌, List, [], ◌∷◌, ◌++◌}
use Rattle.keypad.specs.declared.key.Symbol.{Symbol}
use Rattle.keypad.specs.Entries.{Entries}
use Rattle.key_record.specs.declared.ending.Method.{Method}
use Rattle.key_record.specs.declared.ending.Method.TheVariants.{Unambiguous, Full}
use Rattle.key_record.specs.declared.settings.Procedure.{Procedure}
use Rattle.key_record.specs.declared.settings.Procedure.TheVariants.{Base, Shortest}
use Rattle.key_record.specs.Matching.{IsEntry, IsSettled, BeginsEntry, GoesFurther}

-- complete: base, unambiguous, an entry and none goes further; shortest, full, an entry that is not held
abbrev pub Complete : Procedure → Entries → List Symbol → Method → Type 0
Complete Base w d m = (m ≡ Unambiguous) × ∥ IsEntry w d ∥₁ × (GoesFurther w d → ⊥)
Complete Shortest w d m = (m ≡ Full) × ∥ IsSettled w d ∥₁

-- not complete
abbrev pub Incomplete : Procedure → Entries → List Symbol → Type 0
Incomplete Base w d = IsEntry w d → (GoesFurther w d → ⊥) → ⊥
Incomplete Shortest w d = IsSettled w d → ⊥

-- once a symbol is pressed, the dial string begins an entry and is not complete
abbrev pub Underway : Procedure → Entries → List Symbol → Type 0
Underway p w [] = Unit {0}
Underway p w (y ∷ d) = ∥ BeginsEntry w (y ∷ d) ∥₁ × Incomplete p w (y ∷ d)

-- each shorter front of the dial string was on its way
abbrev pub Earlier : Procedure → Entries → List Symbol → Type 0
Earlier p w d = (front : List Symbol) (y : Symbol) (more : List Symbol) → d ≡ front ++ y ∷ more
    → Underway p w front

-- the dial string of an open line
abbrev pub Begun : Procedure → Entries → List Symbol → Type 0
Begun p w d = Earlier p w d × Underway p w d
