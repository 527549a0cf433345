-- Some long symbol is open exactly when one of the sixteen is. Assumes nothing.
use Rattle.std.proofs.Common.{ℕ, ◌<◌, Bool, true, false, get_or, length, refl, subst, ◌∙◌, ◌≡◌, zero-add, rules, arith}
use mathlib.Core.Logic.{∥∥₁_map}
use borrow.Author.Tests.{tests}
use Rattle.std.proofs.lemmas.Iterator.{YieldsList-from_range, cases_from_any}
use Rattle.std.proofs.lemmas.List.FromFn.{get_or-range_with_len}
use Rattle.std.specs.Bool.{MatchBool}
use Rattle.std.specs.List.{range_with_len, AllWithin, HoldsAt}
use Rattle.keypad.specs.declared.key.Symbol.TheVariants.{Long}
use Rattle.keypad.specs.Answers.{Tells}
use Rattle.keypad.specs.Entries.{Entries}
use Rattle.keypad.specs.Sets.{Starts}
use Rattle.key_record.specs.Keying.{AnyLong}
use Rattle.line_parts.proofs.keying.some_long.Goals as goal

abbrev Open : Entries → ℕ → Type 0
Open a k = ∥ Starts a (Long k) ∥₁

abbrev Shut : Entries → ℕ → Type 0
Shut a k = Starts a (Long k) → ⊥

-- the keys in turn
key_at : (k : ℕ) → k < length (range_with_len 0 16) → get_or (range_with_len 0 16) k 0 ≡ k
key_at k below = get_or-range_with_len 0 16 k 0 below ∙ zero-add k

told : (a : Entries) (r : Bool) → MatchBool r
    ((k : ℕ) × (k < length (range_with_len 0 16)) × HoldsAt (Open a) (range_with_len 0 16) k)
    (AllWithin (Shut a) (range_with_len 0 16) 0 (length (range_with_len 0 16))) → Tells (AnyLong a) r
told a true (k, below, some) =
    ∥∥₁_map (subst (Open a) (key_at k below) (some 0)) (λ s. (k, omega arith, s))
told a false none = λ (k, below, s).
    subst (Shut a) (key_at k (omega arith)) (none k 0 (omega arith) (omega arith)) s

pub returns : goal.returns
returns g c =
    let a = g.P.Plan.rest c.args.plan.now in
    told a c.any.result (cases_from_any _ _ _ (Open a) (Shut a) c.any.ensures.ran (YieldsList-from_range 0 16 16 refl refl)
    (λ x q k. search (rules, tests)) (λ x q k. search (rules, tests)))
