-- What a key does to a dial string, told by the whole. Assumes nothing.
use Rattle.std.proofs.Common.{ℕ, Bool, true, false, List, [], ◌∷◌, ◌++◌, Some, None, Option, sym, refl, subst}
use mathlib.Core.Logic.{∥∥₁_map}
use Rattle.keypad.specs.declared.key.KeyEvent.{KeyEvent}
use Rattle.keypad.specs.declared.key.Symbol.{Symbol}
use Rattle.keypad.specs.declared.key.Symbol.TheVariants.{Plain, Long}
use Rattle.keypad.specs.Entries.{Entries}
use Rattle.keypad.specs.Sets.{Starts, After, Remains}
use Rattle.keypad.proofs.Sames.{remains-++}
use Rattle.key_record.specs.declared.ending.Method.{Method}
use Rattle.key_record.specs.declared.ending.Method.TheVariants.{Unambiguous, Full, Partial}
use Rattle.key_record.specs.declared.ending.Trigger.TheVariants.{Press, Extra as ExtraKey}
use Rattle.key_record.specs.declared.settings.Procedure.{Procedure}
use Rattle.key_record.specs.declared.settings.Procedure.TheVariants.{Base, Shortest}
use Rattle.key_record.specs.declared.settings.Settings.{Settings}
use Rattle.key_record.specs.Completion.{Complete, Incomplete, Earlier, Begun}
use Rattle.key_record.specs.Keying.{is_long, Chosen, AnyLong, Extra, Judged, Falls, Missed}
use Rattle.key_record.specs.Meaning.{FullOrPartial, AtExtra, FitsNowhere, LongNext, ShownAs, Brought}
use Rattle.key_record.specs.Turns.{Turned, pressed, closed, unmatched, Turns}
use Rattle.key_record.proofs.Fronts.{earlier_pressed, underway}
use Rattle.key_record.proofs.Remaining.{ended_entry, entry_ended, settled_entry, entry_settled}
use Rattle.key_record.proofs.Remaining.{starts_begins, begins_starts, goes_further, further_goes}

chosen_starts : (a : Entries) (long : Bool) (k : ℕ) (y : Symbol) → Chosen a long k (Some y) → ∥ Starts a y ∥₁
chosen_starts a true k (Long j) x = subst (λ q. ∥ Starts a (Long q) ∥₁) (sym x.0) x.1
chosen_starts a true k (Plain j) x = subst (λ q. ∥ Starts a (Plain q) ∥₁) (sym x.0) x.2
chosen_starts a false k (Long j) x = absurd x
chosen_starts a false k (Plain j) x = subst (λ q. ∥ Starts a (Plain q) ∥₁) (sym x.0) x.1

module _ (w : Entries) (d : List Symbol) where
  judged_complete : (p : Procedure) (m : Method) → Judged p (Remains w d) (Some m) → Complete p w d m
  judged_complete Base m (e, x, none) = (e, ∥∥₁_map x (ended_entry w d), λ g. none (further_goes w d g))
  judged_complete Shortest m (e, x) = (e, ∥∥₁_map x (settled_entry w d))

  judged_incomplete : (p : Procedure) → Judged p (Remains w d) None → Incomplete p w d
  judged_incomplete Base x = λ i none. x (entry_ended w d i) (λ g. none (goes_further w d g))
  judged_incomplete Shortest x = λ i. x (entry_settled w d i)

  pub falls_told : (m : Method) → Falls (Remains w d) m → FullOrPartial w d m
  falls_told Unambiguous x = x
  falls_told Full x = ∥∥₁_map x (ended_entry w d)
  falls_told Partial x = λ i. x (entry_ended w d i)

  missed_told : (p : Procedure) (m : Method) → Missed p (Remains w d) m → AtExtra p w d m
  missed_told Base m x = falls_told m x
  missed_told Shortest m x = x

  unchosen_fits : (long : Bool) (k : ℕ) → Chosen (Remains w d) long k None → FitsNowhere w d long k
  unchosen_fits true k (never, none) =
      (λ b. never (begins_starts w d (Long k) b), λ b. none (begins_starts w d (Plain k) b))
  unchosen_fits false k none = λ b. none (begins_starts w d (Plain k) b)

  extra_shown : (long : Bool) (k : ℕ) (y : Symbol) → Extra (Remains w d) long k y → ShownAs w d long k y
  extra_shown true k (Long j) (e, x) =
      (e, ∥∥₁_map x (λ (q : AnyLong (Remains w d)). (q.0, q.1, starts_begins w d (Long q.0) q.2)))
  extra_shown true k (Plain j) (e, none) =
      (e, λ (q : LongNext w d). none (q.0, q.1, begins_starts w d (Long q.0) q.2))
  extra_shown false k (Long j) x = x
  extra_shown false k (Plain j) x = x

module _ (s : Settings) (w : Entries) (d : List Symbol) (k : KeyEvent) where
  -- what it means that the key so turned out, d being the dial string before it
  abbrev pub TurnMeans : Turned → Type 0
  TurnMeans (pressed y) = Begun s.procedure w (d ++ y ∷ [])
  TurnMeans (closed y m) = Earlier s.procedure w (d ++ y ∷ []) × Brought s w (d ++ y ∷ []) m Press None
  TurnMeans (unmatched y m) = Earlier s.procedure w d × Brought s w d m (ExtraKey y) (Some k)

  -- what remains once one more symbol is pressed
  judged_pressed : (y : Symbol) (m : Option Method) → Judged s.procedure (After (Remains w d) y) m
      → Judged s.procedure (Remains w (d ++ y ∷ [])) m
  judged_pressed y m x =
      subst (λ (q : Entries). Judged s.procedure q m) (sym (remains-++ w d (y ∷ []))) x

  pub turn_means : (u : Turned) → Begun s.procedure w d → Turns s (Remains w d) k u → TurnMeans u
  turn_means (pressed y) h (chosen, judged) =
      let starts = chosen_starts (Remains w d) (is_long s.timers k) k.key y chosen in
      let i = judged_incomplete w (d ++ y ∷ []) s.procedure (judged_pressed y None judged) in (
        earlier_pressed s.procedure w d y h,
        underway s.procedure w (d ++ y ∷ []) (∥∥₁_map starts (starts_begins w d y)) i,
      )
  turn_means (closed y m) h (chosen, judged) = (
    earlier_pressed s.procedure w d y h,
    (judged_complete w (d ++ y ∷ []) s.procedure m (judged_pressed y (Some m) judged), refl),
  )
  turn_means (unmatched y m) h (chosen, extra, missed) =
      let long = is_long s.timers k in (
        h.0,
        (
          missed_told w d s.procedure m missed,
          h.1,
          (k, refl, (unchosen_fits w d long k.key chosen, extra_shown w d long k.key y extra)),
        ),
      )
