-- Keys fed to an entry, by facts. Assumes nothing.
use Rattle.std.proofs.Common.{◌≡◌, List, [], ◌∷◌, ◌++◌, Some, None, Option, refl}
use Rattle.keypad.specs.declared.key.KeyEvent.{KeyEvent}
use Rattle.keypad.specs.declared.key.Symbol.{Symbol}
use Rattle.keypad.specs.Entries.{Entries}
use Rattle.keypad.specs.Sets.{After, Remains}
use Rattle.key_record.specs.declared.ending.Method.{Method}
use Rattle.key_record.specs.declared.settings.Settings.{Settings}
use Rattle.key_record.specs.Keying.{is_long, Chosen, Judged}
use Rattle.key_record.specs.Turns.{Turned, pressed, closed, unmatched, Turns}
use Rattle.key_record.specs.Turns.{Outcome, still, completed, stopped, ByTurn, Fed}
use Rattle.sale_cases.proofs.Facts.{Facts, Decides, decides_behind}
use Rattle.sale_cases.proofs.Choices.{choice, extra, judge, missing, chosen, unmatched_as, judged, missed}

-- a press, by its judgement
abbrev pub press_turn : Symbol → Option Method → Turned
press_turn y None = pressed y
press_turn y (Some m) = closed y m

-- a key by the symbol that it is pressed as, the facts being of what remains
abbrev pub turn_by : Settings → (List Symbol → Facts) → KeyEvent → Option Symbol → Turned
turn_by s m k (Some y) = press_turn y (judge s.procedure (m (y ∷ [])))
turn_by s m k None = unmatched (extra (m []) (is_long s.timers k) k.key) (missing s.procedure (m []))

abbrev pub turn : Settings → (List Symbol → Facts) → KeyEvent → Turned
turn s m k = turn_by s m k (choice (m []) (is_long s.timers k) k.key)

-- where a key, by what becomes of it, leaves the entry; on is where the keys behind it do after a press
abbrev pub fed_by : List Symbol → List KeyEvent → KeyEvent → List KeyEvent → (Symbol → Outcome) → Turned →
    Outcome
fed_by p t k ks on (pressed y) = on y
fed_by p t k ks on (closed y x) = completed (p ++ y ∷ []) (t ++ k ∷ []) x ks
fed_by p t k ks on (unmatched y x) = stopped p t x y k ks

abbrev pub feed : Settings → (List Symbol → Facts) → List Symbol → List KeyEvent → List KeyEvent → Outcome
feed s m p t [] = still p t
feed s m p t (k ∷ ks) =
    fed_by p t k ks (λ y. feed s m (p ++ y ∷ []) (t ++ k ∷ []) ks) (turn s (λ d. m (p ++ d)) k)

module _ (s : Settings) (a : Entries) (m : List Symbol → Facts) (h : Decides a m) (k : KeyEvent) where
  press_turned : (y : Symbol) → Chosen a (is_long s.timers k) k.key (Some y) → (o : Option Method) →
      Judged s.procedure (After a y) o → Turns s a k (press_turn y o)
  press_turned y c None j = (c, j)
  press_turned y c (Some x) j = (c, j)

  turned_by : (o : Option Symbol) → Chosen a (is_long s.timers k) k.key o →
      Turns s a k (turn_by s m k o)
  turned_by (Some y) c = press_turned y c _ (judged (After a y) (m (y ∷ [])) (h (y ∷ [])) s.procedure)
  turned_by None c = (
    c,
    unmatched_as a (m []) (h []) (is_long s.timers k) k.key,
    missed a (m []) (h []) s.procedure,
  )

  turned : Turns s a k (turn s m k)
  turned = turned_by _ (chosen a (m []) (h []) (is_long s.timers k) k.key)

pub fed : (s : Settings) (a : Entries) (m : List Symbol → Facts) → Decides a m → (p : List Symbol)
    (t ks : List KeyEvent) → Fed s a p t ks (feed s m p t ks)
fed s a m h p t [] = refl
fed s a m h p t (k ∷ ks) =
    let u = turn s (λ d. m (p ++ d)) k in
    let out : Turned → Outcome = fed_by p t k ks (λ y. feed s m (p ++ y ∷ []) (t ++ k ∷ []) ks) in (
      u,
      turned s (Remains a p) (λ d. m (p ++ d)) (decides_behind a m h p) k,
      elim u as (λ v. ByTurn v (λ y. Fed s a (p ++ y ∷ []) (t ++ k ∷ []) ks (out v))
          (λ y x. out v ≡ completed (p ++ y ∷ []) (t ++ k ∷ []) x ks) (λ y x. out v ≡ stopped p t x y k ks)) [
            | pressed y ↦ fed s a m h (p ++ y ∷ []) (t ++ k ∷ []) ks
            | closed y x ↦ refl
            | unmatched y x ↦ refl
          ],
    )
