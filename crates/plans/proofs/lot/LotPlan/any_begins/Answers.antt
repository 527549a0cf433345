-- What a search of the lots finds decides whether one fits and begins so. Assumes nothing.
use Rattle.std.proofs.Common.{◌≡◌, ℕ, ◌-◌, ◌/◌, ◌^◌, ◌<◌, Bool, true, false, List, length, get_or, vec_items, Decides, MatchBool, sym, subst, refl, rules, arith, tests}
use Rattle.std.specs.List.{HoldsAt, AllWithin}
use Rattle.std.proofs.ByRecursion.{has_get_or}
use Rattle.std.proofs.iter.Serving.{serving}
use Rattle.std.proofs.lemmas.Iterator.{cases_from_any, YieldsList-from_slice}
use Rattle.plans.specs.Lots.{Begins}
use Rattle.plans.specs.WritingsLemmas.{ten_pos}
use Rattle.std.proofs.lemmas.Bool.{false≢true}
use Rattle.plans.proofs.lot.LotPlan.any_begins.Goals as goal

-- n fits w digits, and its first t digits write p
abbrev Wanted : ℕ → ℕ → ℕ → ℕ → Type 0
Wanted w t p n = (n < 10 ^ w) × (n / 10 ^ (w - t) ≡ p)

begins_decided : (ns : List ℕ) (w t p : ℕ) (r : Bool)
    → MatchBool r ((k : ℕ) × (k < length ns) × HoldsAt (Wanted w t p) ns k)
    (AllWithin (λ n. Wanted w t p n → ⊥) ns 0 (length ns)) → Decides r (Begins ns w t p)
begins_decided ns w t p true (k, inside, holds) =
    (λ _. (get_or ns k 0, (has_get_or ns k 0 inside, (holds 0).0), (holds 0).1), λ _. refl)
begins_decided ns w t p false missed = (
  λ e. absurd (false≢true e),
  λ (n, ((k, inside, is), fits), q).
      absurd (missed k 0 (omega arith) inside (subst (Wanted w t p) (sym (is 0)) (fits, q))),
)

pub any-requires-clause-callable : goal.any-requires-clause-callable
any-requires-clause-callable c =
    let some : 0 < c.power_of_ten-unit.result
    = omega (arith, c.power_of_ten-unit.ensures, ten_pos (c.args.self.now.width - c.args.digits)) in
    grind serving

pub returns : goal.returns
returns c =
    let ns = vec_items c.args.self.now.lots in
    let w = c.args.self.now.width in
    let wanted : ℕ → Type 0 = Wanted w c.args.digits c.args.value in
    begins_decided ns w c.args.digits c.args.value _
    (cases_from_any _ _ _ wanted (λ n. wanted n → ⊥) c.any.ensures.ran (YieldsList-from_slice ns (cc))
    (λ x q k. search (rules, tests)) (λ x q k. search (rules, tests)))
