-- Texts that are told one behind another. Assumes nothing.
use Rattle.std.proofs.Common.{◌≡◌, ℕ, List, ◌∷◌, ◌++◌, refl, append_assoc}
use Rattle.map_report.specs.Reports.{Reported, AllReported}

module _ (all : List (List ℕ)) (out : List ℕ) where
  -- out is told of the texts of all but the rest
  abbrev pub Told : List (List ℕ) → Type 0
  Told rest = (bs : List ℕ) → AllReported rest bs → AllReported all (out ++ bs)

-- one text more is told
pub told_more : (all rest ts : List (List ℕ)) (t out grown x : List ℕ) →
    Told all out rest → rest ≡ t ∷ ts → Reported t x → grown ≡ out ++ x → Told all grown ts
told_more all rest ts t out grown x so_far e told g bs h =
    rw (g, append_assoc) (so_far (x ++ bs) (rw e (x, bs, told, h, refl)))
