-- Keys fed to an open entry, one after another. Assumes nothing.
use Rattle.std.specs.Prelude.{◌≡◌, List, [], ◌∷◌, ◌++◌, Some, None, Option}
use Rattle.keypad.specs.declared.key.KeyEvent.{KeyEvent}
use Rattle.keypad.specs.declared.key.Symbol.{Symbol}
use Rattle.keypad.specs.Entries.{Entries}
use Rattle.keypad.specs.Sets.{After, Remains}
use Rattle.key_record.specs.declared.ending.Ending.{Ending}
use Rattle.key_record.specs.declared.ending.Method.{Method}
use Rattle.key_record.specs.declared.ending.Trigger.TheVariants.{Press, Extra as ExtraKey}
use Rattle.key_record.specs.declared.settings.Settings.{Settings}
use Rattle.key_record.specs.Keying.{is_long, Chosen, Extra, Judged, Missed}

-- what becomes of a key: it is pressed and the entry goes on, or it is over; or it is unmatched and the entry
-- over
pub data Turned : Type 0 where
  pressed : Symbol → Turned
  closed : Symbol → Method → Turned
  unmatched : Symbol → Method → Turned

-- what becomes of the key k where a is what remains
abbrev pub Turns : Settings → Entries → KeyEvent → Turned → Type 0
Turns s a k (pressed y) = Chosen a (is_long s.timers k) k.key (Some y) × Judged s.procedure
    (After a y) None
Turns s a k (closed y m) = Chosen a (is_long s.timers k) k.key (Some y)
    × Judged s.procedure (After a y) (Some m)
Turns s a k (unmatched y m) = Chosen a (is_long s.timers k) k.key None
    × Extra a (is_long s.timers k) k.key y × Missed s.procedure a m

-- an entry that is over: the symbols pressed and the keys taken for them, how it ended, the key that was
-- unmatched, if any, and the keys that were not looked at
pub record Over : Type 0 where
  pub pressed : List Symbol
  pub taken : List KeyEvent
  pub ending : Ending
  pub extra : Option KeyEvent
  pub left : List KeyEvent

-- where keys leave an entry: still open, with the symbols pressed and the keys taken for them, or over
pub data Outcome : Type 0 where
  still : List Symbol → List KeyEvent → Outcome
  over : Over → Outcome

-- over at a press, and at an unmatched key
abbrev pub completed : List Symbol → List KeyEvent → Method → List KeyEvent → Outcome
completed p t m ks = over (record {
  pressed = p;
  taken = t;
  ending = record { method = m; trigger = Press };
  extra = None;
  left = ks;
})

abbrev pub stopped : List Symbol → List KeyEvent → Method → Symbol → KeyEvent → List KeyEvent → Outcome
stopped p t m y k ks = over (record {
  pressed = p;
  taken = t;
  ending = record { method = m; trigger = ExtraKey y };
  extra = Some k;
  left = ks;
})

abbrev pub ByTurn : Turned → (Symbol → Type 0) → (Symbol → Method → Type 0) → (Symbol → Method → Type 0)
    → Type 0
ByTurn (pressed y) A B C = A y
ByTurn (closed y m) A B C = B y m
ByTurn (unmatched y m) A B C = C y m

-- of the entries a the symbols p have been pressed by the keys t; the keys ks, in order, lead to the outcome
abbrev pub Fed : Settings → Entries → List Symbol → List KeyEvent → List KeyEvent → Outcome → Type 0
Fed s a p t [] out = out ≡ still p t
Fed s a p t (k ∷ ks) out = (u : Turned) × Turns s (Remains a p) k u × ByTurn u
    (λ y. Fed s a (p ++ y ∷ []) (t ++ k ∷ []) ks out)
    (λ y m. out ≡ completed (p ++ y ∷ []) (t ++ k ∷ []) m ks)
    (λ y m. out ≡ stopped p t m y k ks)
