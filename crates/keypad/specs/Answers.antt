-- What the answers of a plan tell of its entries. Assumes nothing.
use Rattle.std.specs.Prelude.{Bool, true, false}
use Rattle.keypad.specs.declared.key.Symbol.{Symbol}
use Rattle.keypad.specs.declared.key.Mark.{Mark}
use Rattle.keypad.specs.declared.key.Mark.TheVariants.{Unmarked, Short, Long}
use Rattle.keypad.specs.Entries.{Entries}
use Rattle.keypad.specs.Sets.{Same, Starts, After, Under}

-- yes says that the fact holds, no that it does not
abbrev pub Tells : Type 0 → Bool → Type 0
Tells P true = ∥ P ∥₁
Tells P false = P → ⊥

-- a symbol pressed at a, answered so, leaves b: taken exactly when it is open
abbrev pub Pressed : Entries → Symbol → Bool → Entries → Type 0
Pressed a s true b = ∥ Starts a s ∥₁ × Same b (After a s)
Pressed a s false b = (Starts a s → ⊥) × Same b a

-- long if any entry awaits under long, else short if any does, else unmarked
abbrev pub Timing : Entries → Mark → Type 0
Timing a Long = ∥ Under a Long ∥₁
Timing a Short = (Under a Long → ⊥) × ∥ Under a Short ∥₁
Timing a Unmarked = (Under a Long → ⊥) × (Under a Short → ⊥)
