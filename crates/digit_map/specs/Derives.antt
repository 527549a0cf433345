-- What the text of a map is, and the fault of one that is none. Assumes nothing.
use Rattle.std.specs.Prelude.{◌≡◌, ℕ, ◌<◌, ◌≤◌, false, ◌⊎◌, List, length, Ok, Err, Result}
use Rattle.keypad.specs.declared.timers.Timers.{Timers}
use Rattle.digit_map.specs.declared.fault.Cause.TheVariants as cause
use Rattle.digit_map.specs.declared.fault.Fault.{Fault}
use Rattle.digit_map.specs.declared.token.Token.{Token}
use Rattle.digit_map.specs.declared.node.Node.{Node}
use Rattle.digit_map.specs.declared.map.Map.{Map}
use Rattle.digit_map.specs.Faults.{fault}
use Rattle.digit_map.specs.Limits.{sale}
use Rattle.digit_map.specs.Tokens.{tokens}
use Rattle.digit_map.specs.Maps.{places, timers_of}
use Rattle.digit_map.specs.Spacing.{Spaced, GapAt}
use Rattle.digit_map.specs.Grammar.{Admitted}
use Rattle.digit_map.specs.Shows.{Decides}
use Rattle.digit_map.specs.Continues.{Turning}
use Rattle.digit_map.specs.Meaning.{Meant}

-- a text stands for a map, by its timers and places: it has 1 to 2,048 bytes, its blanks stand where they
-- may, and the grammar derives what it is without them, within the limits
pub record Derives (text : List ℕ) (t : Timers) (ns : List Node) : Type 0 where
  pub low : 0 < length text
  pub high : length text ≤ 2048
  pub bytes : List Token
  pub spaced : Spaced false 0 text bytes
  pub admitted : Admitted sale bytes t ns

-- the fault of a text: its length, or else the first that shows
pub data FaultOf (text : List ℕ) : Fault → Type 0 where
  by_length : ((length text ≡ 0) ⊎ (2048 < length text)) → FaultOf text (fault cause.Length 0 0)
  by_token : {f : Fault} → 0 < length text → length text ≤ 2048 → Decides (tokens false 0 text) f →
      FaultOf text f

-- reading a text: admitted exactly when derived, as the one map that it stands for, whose entries have steps;
-- refused exactly when it has a fault, of which there is one; a gap in its tokens is the first blank of a run
-- that may not stand there; and at the token that decides it stops being the beginning of an admitted text
pub record ReadExactly (text : List ℕ) (r : Result Map Fault) : Type 0 where
  pub derived : (m : Map) → r ≡ Ok m → Derives text (timers_of m) (places m)
  pub admitted : (t : Timers) (ns : List Node) → Derives text t ns →
      (m : Map) × (r ≡ Ok m) × (timers_of m ≡ t) × (places m ≡ ns)
  pub one_map : (t u : Timers) (ns us : List Node) → Derives text t ns → Derives text u us →
      (t ≡ u) × (ns ≡ us)
  pub blamed : (f : Fault) → r ≡ Err f → FaultOf text f
  pub faulty : (f : Fault) → FaultOf text f → r ≡ Err f
  pub one_fault : (f g : Fault) → FaultOf text f → FaultOf text g → f ≡ g
  pub entries : (m : Map) → r ≡ Ok m → Meant (places m)
  pub gaps : (o : ℕ) → GapAt text o
  pub turning : {f : Fault} (d : Decides (tokens false 0 text) f) → Turning d

-- reading into a place that holds a map: a refused text leaves it
abbrev pub Replaced : List ℕ → Map → Map → Result (Unit {0}) Fault → Type 0
Replaced text before after (Ok u) = ReadExactly text (Ok after)
Replaced text before after (Err f) = ReadExactly text (Err f) × (after ≡ before)
