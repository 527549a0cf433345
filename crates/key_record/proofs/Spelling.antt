-- Spelling grows at its end, and so do the keys that reports spend. Assumes nothing.
use Rattle.std.proofs.Common.{◌≡◌, List, [], ◌∷◌, ◌++◌, refl, append_assoc}
use Rattle.keypad.specs.declared.key.KeyEvent.{KeyEvent}
use Rattle.keypad.specs.declared.key.Symbol.{Symbol}
use Rattle.keypad.specs.declared.timers.Timers.{Timers}
use Rattle.keypad.specs.Entries.{Entries}
use Rattle.keypad.specs.Sets.{After, Remains}
use Rattle.key_record.specs.Record.{Told}
use Rattle.key_record.specs.Spelling.{Spells, all_spent, AllSpelled}

pub spells-++ : (t : Timers) (a : Entries) (ks js : List KeyEvent) (d e : List Symbol) → Spells t a ks d
    → Spells t (Remains a d) js e → Spells t a (ks ++ js) (d ++ e)
spells-++ t a [] js [] e f g = g
spells-++ t a [] js (y ∷ d) e f g = absurd f
spells-++ t a (k ∷ ks) js [] e f g = absurd f
spells-++ t a (k ∷ ks) js (y ∷ d) e f g = (f.0, spells-++ t (After a y) ks js d e f.1 g)

pub all_spent-++ : (ts us : List Told) → all_spent (ts ++ us) ≡ all_spent ts ++ all_spent us
all_spent-++ [] us = refl
all_spent-++ (t ∷ ts) us = rw (all_spent-++ ts us) (simp append_assoc)

pub all_spelled-++ : (w : Entries) (ts us : List Told) → AllSpelled w ts → AllSpelled w us
    → AllSpelled w (ts ++ us)
all_spelled-++ w [] us f g = g
all_spelled-++ w (t ∷ ts) us f g = (f.0, all_spelled-++ w ts us f.1 g)
