-- Dial strings on their way, as they grow at their end. Assumes nothing.
use Rattle.std.proofs.Common.{◌≡◌, ◌⊎◌, List, [], ◌∷◌, ◌++◌, sym, refl, subst, inl, inr}
use mathlib.Core.List.{cons-ne-nil, append-ne-nil_of_right_ne-nil}
use Rattle.keypad.specs.declared.key.Symbol.{Symbol}
use Rattle.keypad.specs.Entries.{Entries}
use Rattle.key_record.specs.declared.settings.Procedure.{Procedure}
use Rattle.key_record.specs.Completion.{Incomplete, Underway, Earlier, Begun}
use Rattle.key_record.specs.Matching.{BeginsEntry}

-- a shorter front of a list with one more is the list, or a shorter front of it
front_shorter : (d : List Symbol) (y : Symbol) (front : List Symbol) (z : Symbol) (more : List Symbol)
    → d ++ y ∷ [] ≡ front ++ z ∷ more
    → (d ≡ front) ⊎ ((u : Symbol) × (v : List Symbol) × (d ≡ front ++ u ∷ v))
front_shorter [] y [] z more e = inl refl
front_shorter [] y (x ∷ f) z more e =
    let none : f ++ z ∷ more ≡ [] = cc in
    absurd (append-ne-nil_of_right_ne-nil f (cons-ne-nil z more) none)
front_shorter (c ∷ d) y [] z more e = inr (c, d, refl)
front_shorter (c ∷ d) y (x ∷ f) z more e =
    let first : c ≡ x = cc in let others : d ++ y ∷ [] ≡ f ++ z ∷ more = cc in
    elim (front_shorter d y f z more others) [ inl h ↦ inl (cc) | inr h ↦ inr (h.0, h.1, cc h.2) ]

module _ (p : Procedure) (w : Entries) where
  pub begun_none : Begun p w []
  begun_none =
      (λ front y more e. absurd (append-ne-nil_of_right_ne-nil front (cons-ne-nil y more) (sym e)), tt)

  pub earlier_pressed : (d : List Symbol) (y : Symbol) → Begun p w d → Earlier p w (d ++ y ∷ [])
  earlier_pressed d y (earlier, here) front z more e =
      elim (front_shorter d y front z more e)
      [ inl h ↦ subst (λ q. Underway p w q) h here | inr h ↦ earlier front h.0 h.1 h.2 ]

  pub underway : (d : List Symbol) → ∥ BeginsEntry w d ∥₁ → Incomplete p w d → Underway p w d
  underway [] b i = tt
  underway (y ∷ d) b i = (b, i)
