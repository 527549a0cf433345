-- Lines that are answered one behind another. Assumes nothing.
use Rattle.std.proofs.Common.{◌≡◌, ℕ, List, ◌∷◌, ◌++◌, refl, append_assoc}
use Rattle.plancheck.specs.Stores.{Store, fresh}
use Rattle.plancheck.specs.Transcripts.{Answers, Transcript}

module _ (all : List (List ℕ)) where
  -- out is printed of all lines but the rest, which find k kept
  abbrev pub Printed : List ℕ → Store → List (List ℕ) → Type 0
  Printed out k rest = (bs : List ℕ) → Transcript k rest bs → Transcript fresh all (out ++ bs)

  -- one line more is answered
  pub printed_more : (out grown x : List ℕ) (k after : Store) (rest ls : List (List ℕ)) (l : List ℕ) →
      Printed out k rest → rest ≡ l ∷ ls → Answers k l x after → grown ≡ out ++ x → Printed grown after ls
  printed_more out grown x k after rest ls l so_far e told g bs h =
      rw (g, append_assoc) (so_far (x ++ bs) (rw e (after, x, bs, told, h, refl)))
