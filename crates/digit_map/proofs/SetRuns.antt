-- The run over a set, byte by byte. Assumes nothing.
use Rattle.std.proofs.Common.{◌≡◌, ℕ, ◌≤◌, Bool, List, length}
use Rattle.keypad.specs.declared.timers.Timers.{Timers}
use Rattle.digit_map.specs.declared.token.Cursor.{Cursor}
use Rattle.digit_map.specs.declared.node.Node.{Node}
use Rattle.digit_map.specs.declared.set.Place.{Place}
use Rattle.digit_map.specs.declared.set.Place.TheVariants.{Start}
use Rattle.digit_map.specs.declared.progress.Progress.{Progress}
use Rattle.digit_map.specs.declared.progress.Frame.{Frame}
use Rattle.digit_map.specs.Tokens.{rest}
use Rattle.digit_map.specs.Sets.{Sound}
use Rattle.digit_map.specs.Limits.{sale}
use Rattle.digit_map.specs.Turns.{Turn, in_set, state, run}

-- what the set from the cursor c on comes to, whatever was read before it
abbrev Gives : List ℕ → ℕ → Cursor → ℕ → ℕ → (Timers → List Node → Frame → Progress → Bool → Turn) → Type 0
Gives text base c at n g =
    (t : Timers) (ns : List Node) (f : Frame) (p : Progress) (l : Bool) → f.number ≡ n →
    run sale (state t ns (in_set f p l at Start 0)) (rest text base c) ≡ g t ns f p l

-- a set from the cursor c on, of which the part up to b is read
pub record SetUpTo (text : List ℕ) (base : ℕ) (c : Cursor) (at n : ℕ) (b : Cursor) (q : Place) (k : ℕ)
    : Type 0 where
  pub low : c.at ≤ b.at
  pub high : b.at ≤ length text
  pub sound : Sound q
  pub is : Gives text base c at n
      (λ t ns f p l. run sale (state t ns (in_set f p l at q k)) (rest text base b))
