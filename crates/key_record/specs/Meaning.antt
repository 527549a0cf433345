-- What a report means, in terms of the plan's entries. Assumes nothing.
use Rattle.std.specs.Prelude.{◌≡◌, ℕ, ◌≤◌, Bool, true, false, List, [], ◌∷◌, ◌++◌, Some, None, Option}
use Rattle.keypad.specs.declared.key.KeyEvent.{KeyEvent}
use Rattle.keypad.specs.declared.key.Symbol.{Symbol}
use Rattle.keypad.specs.declared.key.Symbol.TheVariants.{Plain, Long}
use Rattle.keypad.specs.Entries.{Entries}
use Rattle.key_record.specs.declared.ending.Method.{Method}
use Rattle.key_record.specs.declared.ending.Method.TheVariants.{Unambiguous, Full, Partial}
use Rattle.key_record.specs.declared.ending.Phase.TheVariants.{Open}
use Rattle.key_record.specs.declared.ending.Trigger.{Trigger}
use Rattle.key_record.specs.declared.ending.Trigger.TheVariants.{Press, Extra, Expiry}
use Rattle.key_record.specs.declared.settings.Procedure.{Procedure}
use Rattle.key_record.specs.declared.settings.Procedure.TheVariants.{Base, Shortest}
use Rattle.key_record.specs.declared.settings.Settings.{Settings}
use Rattle.key_record.specs.Completion.{Complete, Underway, Earlier, Begun}
use Rattle.key_record.specs.Keying.{is_long}
use Rattle.key_record.specs.Matching.{IsEntry, BeginsEntry}
use Rattle.key_record.specs.Record.{Told, Kept}
use Rattle.key_record.specs.Ticking.{Ticks}

-- full: the dial string is an entry; partial: it is none
abbrev pub FullOrPartial : Entries → List Symbol → Method → Type 0
FullOrPartial w d Unambiguous = ⊥
FullOrPartial w d Full = ∥ IsEntry w d ∥₁
FullOrPartial w d Partial = IsEntry w d → ⊥

-- at a key that fitted nowhere: base, full or partial; shortest, partial
abbrev pub AtExtra : Procedure → Entries → List Symbol → Method → Type 0
AtExtra Base w d m = FullOrPartial w d m
AtExtra Shortest w d m = m ≡ Partial

-- the key fits nowhere: no entry goes on with its plain symbol, nor, if it was long, with its long one
abbrev pub FitsNowhere : Entries → List Symbol → Bool → ℕ → Type 0
FitsNowhere w d true k = (BeginsEntry w (d ++ Long k ∷ []) → ⊥) × (BeginsEntry w (d ++ Plain k ∷ []) → ⊥)
FitsNowhere w d false k = BeginsEntry w (d ++ Plain k ∷ []) → ⊥

-- some entry goes on with a long symbol
abbrev pub LongNext : Entries → List Symbol → Type 0
LongNext w d = (k : ℕ) × (k ≤ 15) × BeginsEntry w (d ++ Long k ∷ [])

-- the symbol that shows the key: long exactly when the key was and some entry goes on with a long symbol
abbrev pub ShownAs : Entries → List Symbol → Bool → ℕ → Symbol → Type 0
ShownAs w d true k (Long j) = (j ≡ k) × ∥ LongNext w d ∥₁
ShownAs w d true k (Plain j) = (j ≡ k) × (LongNext w d → ⊥)
ShownAs w d false k (Long j) = ⊥
ShownAs w d false k (Plain j) = j ≡ k

-- the key k fits nowhere, and the report shows it as y
abbrev pub Stopped : Settings → Entries → List Symbol → Symbol → KeyEvent → Type 0
Stopped s w d y k = FitsNowhere w d (is_long s.timers k) k.key
    × ShownAs w d (is_long s.timers k) k.key y

-- what the report means, by what brought it: a press, a key that fitted nowhere, or the timer that ran
abbrev pub Brought : Settings → Entries → List Symbol → Method → Trigger → Option KeyEvent → Type 0
Brought s w d m Press x = Complete s.procedure w d m × (x ≡ None)
Brought s w d m (Extra y) x = AtExtra s.procedure w d m × Underway s.procedure w d
    × ((k : KeyEvent) × (x ≡ Some k) × Stopped s w d y k)
Brought s w d m (Expiry t) x = FullOrPartial w d m × Underway s.procedure w d
    × (x ≡ None) × ((n : ℕ) × Ticks s.timers w d (Some (t, n)))

-- what led to the report, and what brought it
abbrev pub Means : Entries → Told → Type 0
Means w t = Earlier t.settings.procedure w t.dial
    × Brought t.settings w t.dial t.ending.method t.ending.trigger t.extra

abbrev pub AllMean : Entries → List Told → Type 0
AllMean w [] = Unit {0}
AllMean w (t ∷ ts) = Means w t × AllMean w ts

-- what all reports of a record mean, and its open entry
abbrev pub Meant : Entries → Kept → Type 0
Meant w r = AllMean w r.reports
    × (r.state.phase ≡ Open → Begun r.state.settings.procedure w r.state.dial)
