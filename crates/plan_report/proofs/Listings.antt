-- Symbols that are told one behind another. Assumes nothing.
use Rattle.std.proofs.Common.{◌≡◌, ℕ, List, [], ◌∷◌, ◌++◌, sym, ap, subst, ◌∙◌, append_assoc}
use Rattle.keypad.specs.Entries.{Entries}
use Rattle.keypad.specs.declared.key.Symbol.{Symbol}
use Rattle.plan_report.specs.Listings.{Listed, named_if}

-- symbols and then others
pub listed_append : (a : Entries) (ss ts : List Symbol) (x y : List ℕ) → Listed a ss x → Listed a ts y →
    Listed a (ss ++ ts) (x ++ y)
listed_append a [] ts x y h k = subst (λ (bs : List ℕ). Listed a ts (bs ++ y)) (sym h) k
listed_append a (s ∷ ss) ts x y h k = (
  h.0,
  h.1 ++ y,
  h.2,
  listed_append a ss ts h.1 y h.3 k,
  ap (λ (bs : List ℕ). bs ++ y) h.4 ∙ append_assoc (named_if s h.0) h.1 y,
)

-- one symbol more
pub listed_more : (a : Entries) (ss more : List Symbol) (s : Symbol) (bs grown x : List ℕ) → Listed a ss bs →
    Listed a (s ∷ []) x → grown ≡ bs ++ x → more ≡ ss ++ s ∷ [] → Listed a more grown
listed_more a ss more s bs grown x h k g e = rw (e, g) (listed_append a ss (s ∷ []) bs x h k)
