-- What armings and keys alone make: each arming takes keys until its entry is over. Assumes nothing.
use Rattle.std.proofs.Common.{◌≡◌, List, [], ◌∷◌, ◌++◌, Some, None, Option, sym, ◌∙◌}
use Rattle.keypad.specs.declared.key.KeyEvent.{KeyEvent}
use Rattle.keypad.specs.declared.key.Symbol.{Symbol}
use Rattle.keypad.specs.Entries.{Entries}
use Rattle.keypad.specs.Sets.{Same}
use Rattle.key_record.specs.declared.settings.Settings.{Settings}
use Rattle.key_record.specs.Turns.{Over, Outcome, still, over, Fed}
use Rattle.key_record.specs.States.{kept_extra}
use Rattle.key_record.specs.Record.{Told}
use Rattle.key_record.proofs.Unique.{fed_unique}

-- the reports, the dial string of the open entry and the keys ahead
pub record Shown : Type 0 where
  pub reports : List Told
  pub dial : Option (List Symbol)
  pub ahead : List KeyEvent

abbrev pub report : Settings → Over → Told
report s o = record { settings = s; dial = o.pressed; ending = o.ending; keys = o.taken; extra = o.extra }

-- an entry that is still open is shown so; one that is over is reported, and what it leaves goes on
abbrev pub Onward : (List Told → List KeyEvent → Type 0) → List Told → Settings → Shown → Outcome → Type 0
Onward P rs s z (still p t) = z ≡ record { reports = rs; dial = Some p; ahead = [] }
Onward P rs s z (over o) = P (rs ++ report s o ∷ []) (kept_extra s.disposition o.extra ++ o.left)

-- an entry armed with s stands at the symbols p, pressed by the keys t, and takes of the keys ks
abbrev pub Entered : (List Told → List KeyEvent → Type 0) → Entries → Shown → List Told → Settings
    → List Symbol → List KeyEvent → List KeyEvent → Type 0
Entered P w z rs s p t ks = (out : Outcome) × Fed s w p t ks out × Onward P rs s z out

-- of the reports rs and no open entry, the armings and the keys make z
abbrev pub Parsed : Entries → List Settings → Shown → List Told → List KeyEvent → Type 0
Parsed w [] z rs ks = z ≡ record { reports = rs; dial = None; ahead = ks }
Parsed w (s ∷ ss) z rs ks = Entered (Parsed w ss z) w z rs s [] [] ks

onward_unique : (P Q : List Told → List KeyEvent → Type 0) (y z : Shown)
    → ((rs : List Told) (ks : List KeyEvent) → P rs ks → Q rs ks → y ≡ z)
    → (rs : List Told) (s : Settings) (out : Outcome) → Onward P rs s y out → Onward Q rs s z out → y ≡ z
onward_unique P Q y z h rs s (still p t) e g = e ∙ sym g
onward_unique P Q y z h rs s (over o) f g = h _ _ f g

pub parsed_unique : (w v : Entries) → Same w v → (ss : List Settings) (y z : Shown) (rs : List Told)
    (ks : List KeyEvent) → Parsed w ss y rs ks → Parsed v ss z rs ks → y ≡ z
parsed_unique w v same [] y z rs ks e g = e ∙ sym g
parsed_unique w v same (s ∷ ss) y z rs ks (out, fed, f) (end, feeds, g) =
    let e = fed_unique w v same s [] [] ks out end fed feeds in
    onward_unique (Parsed w ss y) (Parsed v ss z) y z (parsed_unique w v same ss y z) rs s end (rw e at f) g
