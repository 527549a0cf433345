-- The key with so many before it stands at the front of what is left without those. Assumes nothing.
use Rattle.std.proofs.Common.{◌≡◌, ℕ, ◌+◌, List, [], ◌∷◌, drop, inl, inr, ap, ◌∙◌}
use Rattle.std.proofs.lemmas.List.{drop_more, drop_all}
use Rattle.std.proofs.lemmas.Option.{slice_get_cases}
use Rattle.std.specs.List.{slice_get}
use Rattle.std.specs.Option.{MatchOption}
use Rattle.line_parts.specs.Queued.{queued}
use Rattle.line_parts.proofs.ahead.Ahead.at.Goals as goal

front : {A : Type 0} (xs : List A) (i : ℕ) →
    MatchOption (slice_get xs i) (drop i xs ≡ []) (λ x. drop i xs ≡ x ∷ drop (i + 1) xs)
front xs i = elim (slice_get_cases xs i).1 [
  | inl x ↦ rw x.2 (drop_more xs i x.0 x.1 ∙ ap (λ y. y ∷ drop (i + 1) xs) x.3)
  | inr x ↦ rw x.1 (drop_all i xs x.0)
]

pub returns : goal.returns
returns c = rw c.get.ensures (front (queued c.args.self.now) c.args.index)
