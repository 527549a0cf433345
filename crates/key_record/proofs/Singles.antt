-- Over one set of entries a key has one choice, an entry one end and a line one timer. Assumes nothing.
use Rattle.std.proofs.Common.{◌≡◌, ℕ, Bool, true, false, Some, None, Option, sym, refl, ap, subst, inl, inr, arith}
use Rattle.keypad.specs.declared.key.Mark.{Mark}
use Rattle.keypad.specs.declared.key.Mark.TheVariants as mark
use Rattle.keypad.specs.declared.key.Symbol.{Symbol}
use Rattle.keypad.specs.declared.key.Symbol.TheVariants.{Plain, Long}
use Rattle.keypad.specs.declared.timers.Timers.{Timers}
use Rattle.keypad.specs.Entries.{Entries}
use Rattle.keypad.proofs.Sames.{clash, timing_single}
use Rattle.key_record.specs.declared.ending.Method.{Method}
use Rattle.key_record.specs.declared.ending.Method.TheVariants.{Unambiguous, Full, Partial}
use Rattle.key_record.specs.declared.settings.Procedure.{Procedure}
use Rattle.key_record.specs.declared.settings.Procedure.TheVariants.{Base, Shortest}
use Rattle.key_record.specs.declared.timer.Timer.{Timer}
use Rattle.key_record.specs.Dials.{fresh}
use Rattle.key_record.specs.Keying.{Chosen, Extra, Judged, Falls, Missed, Later, Awaits}
use Rattle.key_record.specs.States.{State, Running}

module _ (a : Entries) where
  pub chosen_single : (l : Bool) (k : ℕ) (s t : Option Symbol) → Chosen a l k s → Chosen a l k t → s ≡ t
  chosen_single true k (Some (Long i)) (Some (Long j)) x y = cc
  chosen_single true k (Some (Long i)) (Some (Plain j)) x y = clash x.1 y.1
  chosen_single true k (Some (Long i)) None x y = clash x.1 y.0
  chosen_single true k (Some (Plain i)) (Some (Long j)) x y = clash y.1 x.1
  chosen_single true k (Some (Plain i)) (Some (Plain j)) x y = cc
  chosen_single true k (Some (Plain i)) None x y = clash x.2 y.1
  chosen_single true k None (Some (Long j)) x y = clash y.1 x.0
  chosen_single true k None (Some (Plain j)) x y = clash y.2 x.1
  chosen_single true k None None x y = refl
  chosen_single false k (Some (Long i)) t x y = absurd x
  chosen_single false k (Some (Plain i)) (Some (Long j)) x y = absurd y
  chosen_single false k (Some (Plain i)) (Some (Plain j)) x y = cc
  chosen_single false k (Some (Plain i)) None x y = clash x.1 y
  chosen_single false k None (Some (Long j)) x y = absurd y
  chosen_single false k None (Some (Plain j)) x y = clash y.1 x
  chosen_single false k None None x y = refl

  pub extra_single : (l : Bool) (k : ℕ) (s t : Symbol) → Extra a l k s → Extra a l k t → s ≡ t
  extra_single true k (Long i) (Long j) x y = cc
  extra_single true k (Long i) (Plain j) x y = clash x.1 y.1
  extra_single true k (Plain i) (Long j) x y = clash y.1 x.1
  extra_single true k (Plain i) (Plain j) x y = cc
  extra_single false k (Long i) t x y = absurd x
  extra_single false k (Plain i) (Long j) x y = absurd y
  extra_single false k (Plain i) (Plain j) x y = cc

  pub judged_single : (p : Procedure) (m n : Option Method) → Judged p a m → Judged p a n → m ≡ n
  judged_single Base (Some m) (Some n) x y = cc
  judged_single Base (Some m) None x y = clash x.1 (λ e. y e x.2)
  judged_single Base None (Some n) x y = clash y.1 (λ e. x e y.2)
  judged_single Base None None x y = refl
  judged_single Shortest (Some m) (Some n) x y = cc
  judged_single Shortest (Some m) None x y = clash x.1 y
  judged_single Shortest None (Some n) x y = clash y.1 x
  judged_single Shortest None None x y = refl

  pub falls_single : (m n : Method) → Falls a m → Falls a n → m ≡ n
  falls_single Unambiguous n x y = absurd x
  falls_single Full Unambiguous x y = absurd y
  falls_single Full Full x y = refl
  falls_single Full Partial x y = clash x y
  falls_single Partial Unambiguous x y = absurd y
  falls_single Partial Full x y = clash y x
  falls_single Partial Partial x y = refl

  pub missed_single : (p : Procedure) (m n : Method) → Missed p a m → Missed p a n → m ≡ n
  missed_single Base m n x y = falls_single m n x y
  missed_single Shortest m n x y = cc

  pub later_single : (t : Timers) (m : Mark) (u v : Timer × ℕ) → Later t a m u → Later t a m v → u ≡ v
  later_single t mark.Long u v x y = cc
  later_single t mark.Short u v x y = cc
  later_single t mark.Unmarked u v (inl x) (inl y) = cc
  later_single t mark.Unmarked u v (inl x) (inr y) = clash x.0 y.0
  later_single t mark.Unmarked u v (inr x) (inl y) = clash y.0 x.0
  later_single t mark.Unmarked u v (inr x) (inr y) = cc

  pub awaits_single : (t : Timers) (f : Bool) (u v : Option (Timer × ℕ)) → Awaits t a f u → Awaits t a f v
      → u ≡ v
  awaits_single t true None None x y = refl
  awaits_single t true None (Some v) x y = absurd (omega arith)
  awaits_single t true (Some u) None x y = absurd (omega arith)
  awaits_single t true (Some u) (Some v) x y = cc
  awaits_single t false None v x y = absurd x
  awaits_single t false (Some u) None x y = absurd y
  awaits_single t false (Some u) (Some v) x y =
      let e = timing_single a x.0 y.0 x.1 y.1 in
      ap Some (later_single t x.0 u v x.2 (subst (λ m. Later t a m v) (sym e) y.2))

pub running_single : (st : State) (a : Entries) (u v : Option (Timer × ℕ)) → Running st a u → Running st a v
    → u ≡ v
running_single st a u v (inl x) (inl y) =
    awaits_single a st.settings.timers (fresh st.dial) u v x.1 y.1
running_single st a u v (inl x) (inr y) = absurd (y.0 x.0)
running_single st a u v (inr x) (inl y) = absurd (x.0 y.0)
running_single st a u v (inr x) (inr y) = cc
