-- Every key is accounted for. Assumes nothing.
use Rattle.std.specs.Prelude.{◌≡◌, List, [], ◌∷◌, ◌++◌, Some, ◌≢◌}
use Rattle.keypad.specs.declared.key.KeyEvent.{KeyEvent}
use Rattle.keypad.specs.declared.key.Symbol.{Symbol}
use Rattle.keypad.specs.declared.timers.Timers.{Timers}
use Rattle.keypad.specs.Entries.{Entries}
use Rattle.keypad.specs.Sets.{After}
use Rattle.key_record.specs.declared.ending.Phase.TheVariants.{Open}
use Rattle.key_record.specs.Keying.{is_long, Chosen}
use Rattle.key_record.specs.States.{dropped_extra}
use Rattle.key_record.specs.Record.{Told, Kept}

-- the keys, pressed one after another of the entries a, are pressed as the symbols
abbrev pub Spells : Timers → Entries → List KeyEvent → List Symbol → Type 0
Spells t a [] [] = Unit {0}
Spells t a [] (y ∷ d) = ⊥
Spells t a (k ∷ ks) [] = ⊥
Spells t a (k ∷ ks) (y ∷ d) = Chosen a (is_long t k) k.key (Some y) × Spells t (After a y) ks d

-- the keys that a report moved to those gone: the ones taken for it, and then its dropped extra
abbrev pub spent : Told → List KeyEvent
spent t = t.keys ++ dropped_extra t.settings.disposition t.extra

abbrev pub all_spent : List Told → List KeyEvent
all_spent [] = []
all_spent (t ∷ ts) = spent t ++ all_spent ts

-- the keys of each report spell its dial string
abbrev pub AllSpelled : Entries → List Told → Type 0
AllSpelled w [] = Unit {0}
AllSpelled w (t ∷ ts) = Spells t.settings.timers w t.keys t.dial × AllSpelled w ts

-- the accepted keys ks are those gone, then those taken, then those ahead; the keys taken spell the open
-- entry; those gone are, report by report, the keys that spell its dial string and its dropped extra
pub record Accounts (w : Entries) (r : Kept) (ks : List KeyEvent) : Type 0 where
  pub all : ks ≡ (r.gone ++ r.taken) ++ r.state.ahead
  pub open_entry : r.state.phase ≡ Open → Spells r.state.settings.timers w r.taken r.state.dial
  pub idle : (r.state.phase ≢ Open) → r.taken ≡ []
  pub awake : r.state.phase ≡ Open → r.state.ahead ≡ []
  pub by_report : r.gone ≡ all_spent r.reports
  pub spelled : AllSpelled w r.reports
