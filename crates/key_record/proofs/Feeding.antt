-- What an outcome does with the keys that were fed. Assumes nothing.
use Rattle.std.proofs.Common.{◌≡◌, List, [], ◌∷◌, ◌++◌, refl, inl, inr, append_assoc}
use Rattle.keypad.specs.declared.key.KeyEvent.{KeyEvent}
use Rattle.keypad.specs.declared.key.Symbol.{Symbol}
use Rattle.keypad.specs.Entries.{Entries}
use Rattle.key_record.specs.declared.call.Call.{Call}
use Rattle.key_record.specs.declared.settings.Disposition.TheVariants.{Keep}
use Rattle.key_record.specs.declared.settings.Settings.{Settings}
use Rattle.key_record.specs.Turns.{pressed, closed, unmatched, Outcome, still, over, Fed}
use Rattle.key_record.specs.States.{State, kept_extra}
use Rattle.key_record.specs.Effects.{presses, pressed_by}
use Rattle.key_record.specs.Kinds.{key_of}
use Rattle.key_record.specs.Spelling.{Spells}
use Rattle.key_record.proofs.Natures.{Comes}
use Rattle.key_record.proofs.Spelling.{spells-++}

-- the keys that an outcome took, and those that it did not: the extra, and then those not looked at
abbrev pub takes : Outcome → List KeyEvent
takes (still p t) = t
takes (over o) = o.taken

abbrev pub leaves : Outcome → List KeyEvent
leaves (still p t) = []
leaves (over o) = kept_extra Keep o.extra ++ o.left

-- the keys ks are those that the outcome took, which spell what it pressed, and then those that it left
pub record Feeds (s : Settings) (a : Entries) (ks : List KeyEvent) (out : Outcome) : Type 0 where
  pub all : ks ≡ takes out ++ leaves out
  pub spelled : Spells s.timers a (takes out) (pressed_by (presses out))

pub fed_feeds : (s : Settings) (a : Entries) (p : List Symbol) (t ks : List KeyEvent) (out : Outcome)
    → Spells s.timers a t p → Fed s a p t ks out → Feeds s a (t ++ ks) out
fed_feeds s a p t [] out h e = rw e (record { all = refl; spelled = h })
fed_feeds s a p t (k ∷ ks) out h (pressed y, turns, f) =
    rw append_assoc at
    (fed_feeds s a (p ++ y ∷ []) (t ++ k ∷ []) ks out
    (spells-++ s.timers a t (k ∷ []) p (y ∷ []) h (turns.0, tt)) f)
fed_feeds s a p t (k ∷ ks) out h (closed y m, turns, e) =
    rw e (record {
      all = rw append_assoc;
      spelled = spells-++ s.timers a t (k ∷ []) p (y ∷ []) h (turns.0, tt);
    })
fed_feeds s a p t (k ∷ ks) out h (unmatched y m, turns, e) = rw e (record { all = refl; spelled = h })

pub comes_feed : (st : State) (a : Entries) (c : Call) (out : Outcome) → Comes st a c out
    → Feeds st.settings a (key_of c) out
comes_feed st a c out (inl (k, e, f)) = rw e (fed_feeds st.settings a [] [] (k ∷ []) out tt f)
comes_feed st a c out (inr (t, m, e, falls, o)) = rw (e, o) (record { all = refl; spelled = tt })
