-- A long press that was refused left the same entries, on which the plain one goes on. Assumes nothing.
use Rattle.std.proofs.Common.{◌≡◌, ℕ, Bool, true, false, sym, refl, ◌∙◌}
use mathlib.Core.Logic.{∥∥₁_map}
use Rattle.std.proofs.lemmas.Bool.{false≢true}
use Rattle.std.specs.Bool.{then_some}
use Rattle.std.specs.Option.{option_to_list}
use Rattle.keypad.specs.declared.key.Symbol.TheVariants.{Plain, Long}
use Rattle.keypad.specs.Answers.{Pressed}
use Rattle.keypad.specs.Entries.{Entries}
use Rattle.keypad.specs.Sets.{Same, Starts, After, Remains}
use Rattle.keypad.proofs.Sames.{same_refl, same_trans, after_same, starts_same, flip}
use Rattle.key_record.specs.Keying.{Chosen}
use Rattle.line_parts.proofs.keying.press_key.Goals as goal
use Rattle.line_parts.proofs.keying.press_key.Goals.{else-long-via-then-long+else-press, else-long-via-else-long}

-- the plain symbol was pressed at b, the same entries as a
plain_chosen : (a b x : Entries) (l : Bool) (k : ℕ) (p : Bool) → Same b a → (l ≡ true → Starts a (Long k) → ⊥)
    → Pressed b (Plain k) p x → Chosen a l k (then_some p (Plain k))
plain_chosen a b x true k true h never p = (refl, never refl, ∥∥₁_map p.0 (starts_same b a (Plain k) h))
plain_chosen a b x true k false h never p = (never refl, λ s. p.0 (starts_same a b (Plain k) (flip b a h) s))
plain_chosen a b x false k true h never p = (refl, ∥∥₁_map p.0 (starts_same b a (Plain k) h))
plain_chosen a b x false k false h never p = λ s. p.0 (starts_same a b (Plain k) (flip b a h) s)

plain_taken : (a b x : Entries) (k : ℕ) (p : Bool) → Same b a → Pressed b (Plain k) p x →
    Same x (Remains a (option_to_list (then_some p (Plain k))))
plain_taken a b x k true h p =
    same_trans x (After b (Plain k)) (After a (Plain k)) p.1 (after_same b a (Plain k) h)
plain_taken a b x k false h p = same_trans x b a p.1 h

-- a plan with the entries of another
abbrev Still : {P : Type 0} → (P → Entries) → (P → Entries) → P → P → Type 0
Still whole rest p q = Same (whole p) (whole q) × Same (rest p) (rest q)

pub returns : goal.returns
returns g c =
    let whole = g.P.Plan.whole in
    let rest = g.P.Plan.rest in
    let before = c.args.plan.now in
    let middle = c.else-long.plan in
    let after = c.press-2.new.self in
    let key = c.args.key in
    let still : Still whole rest middle before = elim c.else-long.branch [
      | else-long-via-then-long+else-press w ↦
          rw w.plan-is (w.if-press.ensures.whole, w.if-press.ensures.rest.1)
      | else-long-via-else-long w ↦ rw w.plan-is (same_refl (whole before), same_refl (rest before))
    ] in
    let never : c.args.long ≡ true → Starts (rest before) (Long key) → ⊥ = λ long. elim c.else-long.branch [
      | else-long-via-then-long+else-press w ↦ w.if-press.ensures.rest.0
      | else-long-via-else-long w ↦ absurd (false≢true (sym w.if-long.false ∙ long))
    ] in
    let pressed = c.press-2.ensures in
    record {
      chosen = rw c.then_some.ensures
          (plain_chosen (rest before) (rest middle) (rest after) c.args.long key c.press-2.result still.1 never
          pressed.rest);
      whole = same_trans (whole after) (whole middle) (whole before) pressed.whole still.0;
      rest = rw c.then_some.ensures
          (plain_taken (rest before) (rest middle) (rest after) key c.press-2.result still.1 pressed.rest);
    }
