-- Where one key leaves an entry and its line. Assumes nothing.
use Rattle.std.proofs.Common.{◌≡◌, ℕ, Bool, cond, List, [], ◌∷◌, ◌++◌, Some, None, refl, ap, ◌∙◌, subst, arith}
use Rattle.keypad.specs.declared.key.KeyEvent.{KeyEvent}
use Rattle.keypad.specs.declared.key.Symbol.{Symbol}
use Rattle.keypad.specs.Entries.{Entries}
use Rattle.key_record.specs.declared.ending.Ending.{Ending}
use Rattle.key_record.specs.declared.ending.Method.{Method}
use Rattle.key_record.specs.declared.ending.Trigger.TheVariants.{Press, Extra}
use Rattle.key_record.specs.declared.settings.Disposition.{Disposition}
use Rattle.key_record.specs.declared.settings.Disposition.TheVariants.{Keep, Drop}
use Rattle.key_record.specs.declared.settings.Settings.{Settings}
use Rattle.key_record.specs.Effects.{presses, pressed_by}
use Rattle.key_record.specs.States.{State, with_ahead, kept_extra, lands}
use Rattle.key_record.specs.Turns.{Turned, pressed, closed, unmatched, Turns, Outcome, still}
use Rattle.key_record.specs.Turns.{completed, stopped, Fed}
use Rattle.line.specs.Processed.{turned_symbols, turned_ending, dialled_on, keeps, finished}

abbrev pub turned_outcome : Turned → KeyEvent → Outcome
turned_outcome (pressed y) k = still (y ∷ []) (k ∷ [])
turned_outcome (closed y m) k = completed (y ∷ []) (k ∷ []) m []
turned_outcome (unmatched y m) k = stopped [] [] m y k []

pub fed_one : (s : Settings) (a : Entries) (k : KeyEvent) (u : Turned) → Turns s a k u
    → Fed s a [] [] (k ∷ []) (turned_outcome u k)
fed_one s a k (pressed y) h = (pressed y, h, refl)
fed_one s a k (closed y m) h = (closed y m, h, refl)
fed_one s a k (unmatched y m) h = (unmatched y m, h, refl)

pub pressed_one : (k : KeyEvent) (u : Turned) → turned_symbols u ≡ pressed_by (presses (turned_outcome u k))
pressed_one k (pressed y) = refl
pressed_one k (closed y m) = refl
pressed_one k (unmatched y m) = refl

-- a key that did not end an entry was pressed
pub by_still : (P : Turned → Type 0) → ((y : Symbol) → P (pressed y)) → (u : Turned)
    → None ≡ turned_ending u → P u
by_still P f (pressed y) h = f y
by_still P f (closed y m) h = let z : ◌≡◌ {A = ℕ} 0 1 = cc in absurd (omega arith)
by_still P f (unmatched y m) h = let z : ◌≡◌ {A = ℕ} 0 1 = cc in absurd (omega arith)

-- a key that ended an entry was its last, or unmatched
pub by_ending : (P : Turned → Ending → Type 0)
    → ((y : Symbol) (m : Method) → P (closed y m) (record { method = m; trigger = Press }))
    → ((y : Symbol) (m : Method) → P (unmatched y m) (record { method = m; trigger = Extra y }))
    → (u : Turned) (e : Ending) → Some e ≡ turned_ending u → P u e
by_ending P f g (pressed y) e h = let z : ◌≡◌ {A = ℕ} 0 1 = cc in absurd (omega arith)
by_ending P f g (closed y m) e h =
    let is : record { method = m; trigger = Press } ≡ e = cc in
    subst (P (closed y m)) is (f y m)
by_ending P f g (unmatched y m) e h =
    let is : record { method = m; trigger = Extra y } ≡ e = cc in
    subst (P (unmatched y m)) is (g y m)

-- an unmatched key is kept in front of the keys ahead, or not at all
kept_front : (d : Disposition) (y : Symbol) (k : KeyEvent) (ks : List KeyEvent)
    → cond (keeps d (Extra y)) (k ∷ ks) ks ≡ kept_extra d (Some k) ++ ks
kept_front Keep y k ks = refl
kept_front Drop y k ks = refl

module _ (st : State) (k : KeyEvent) where
  -- the keys ahead once the key that ended an entry is kept or not
  abbrev ahead_by : Bool → List KeyEvent
  ahead_by b = cond b (k ∷ st.ahead) st.ahead

  -- the line once its entry was ended by a key that is kept or not
  abbrev left_by : Bool → Turned → Ending → State
  left_by b u e = with_ahead (finished (dialled_on st (turned_symbols u)) e) (ahead_by b)

  abbrev Lands : Bool → Turned → Ending → Type 0
  Lands b u e = b ≡ keeps st.settings.disposition e.trigger
      → left_by b u e ≡ lands st (turned_outcome u k)

  pub lands_ended : (b : Bool) (u : Turned) (e : Ending) → Some e ≡ turned_ending u → Lands b u e
  lands_ended b = by_ending (Lands b)
      (λ y m h. ap (λ v. left_by v (closed y m) (record { method = m; trigger = Press })) h)
      (λ y m h. ap (with_ahead (lands st (turned_outcome (unmatched y m) k)))
      (ap ahead_by h ∙ kept_front st.settings.disposition y k st.ahead))
