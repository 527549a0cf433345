-- A key goes on where digits are left, it is a digit, and a listed number begins so. Assumes nothing.
use Rattle.std.proofs.Common.{ℕ, ◌+◌, ◌*◌, vec_items, sym, subst, arith}
use Rattle.std.proofs.lemmas.Bool.Decides.{Decides-like}
use Rattle.plans.specs.LotPlans.{LotBegins}
use Rattle.plans.specs.LotsLemmas.{starts_sound, starts_complete}
use Rattle.plans.proofs.lot.LotPlan.continues.Goals as goal

pub returns : goal.returns
returns c = let p = c.args.self.now in
    let ns = vec_items p.lots in
    let From : ℕ → Type 0 = λ d. LotBegins p (p.taken + 1) (p.prefix * 10 + d) in
    let same = c.from.ensures in
    Decides-like c.any_begins.result
    (λ b. starts_complete ns p.width p.taken p.prefix c.args.key
    (omega (arith, c.if-self.false, p.within), omega arith, subst From same b))
    (λ x. subst From (sym same) (starts_sound ns p.width p.taken p.prefix c.args.key x).2)
    c.any_begins.ensures
