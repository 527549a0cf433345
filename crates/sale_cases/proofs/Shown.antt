-- What the replies and the record of a row show, computed. Assumes nothing.
use Rattle.std.proofs.Common.{◌≡◌, ℕ, List, Some, None, Option, refl, subst, arith, Ok, Err, Result}
use Rattle.key_record.specs.declared.answer.Answer.{Answer}
use Rattle.key_record.specs.declared.answer.Answer.TheVariants.{Moved, Claimed, Booked, Waived}
use Rattle.key_record.specs.declared.answer.Progress.TheVariants.{Done, Wait, Ahead}
use Rattle.key_record.specs.declared.answer.Reply.{Reply}
use Rattle.key_record.specs.declared.refusal.Refusal.{Refusal}
use Rattle.key_record.specs.Record.{Kept}
use Rattle.sale_cases.specs.Rows.{Expected, waits, reports}
use Rattle.sale_cases.specs.Cases.{last_answer, last_line, Fits}

-- by the last answer, if any, and the line of the last report, if any: a wait, a report or neither
abbrev pub shown_by : Option (Result Answer Refusal) → Option (List ℕ) → Option Expected
shown_by None o = None
shown_by (Some (Ok (Moved Done))) None = None
shown_by (Some (Ok (Moved Done))) (Some l) = Some (reports l)
shown_by (Some (Ok (Moved (Wait None)))) o = None
shown_by (Some (Ok (Moved (Wait (Some v))))) o = Some (waits v.0 v.1)
shown_by (Some (Ok (Moved (Ahead n)))) o = None
shown_by (Some (Ok (Claimed r))) o = None
shown_by (Some (Ok (Booked n))) o = None
shown_by (Some (Ok Waived)) o = None
shown_by (Some (Err why)) o = None

module _ (e : Expected) (xs : List Reply) (n : Kept) where
  nothing : ◌≡◌ {A = Option Expected} None (Some e) → Fits e xs n
  nothing p = let z : ◌≡◌ {A = ℕ} 0 1 = cc in absurd (omega arith)

  fits_by : (x : Option (Result Answer Refusal)) (o : Option (List ℕ)) → last_answer None xs ≡ x →
      last_line None n.reports ≡ o → shown_by x o ≡ Some e → Fits e xs n
  fits_by None o p q s = nothing s
  fits_by (Some (Ok (Moved Done))) None p q s = nothing s
  fits_by (Some (Ok (Moved Done))) (Some l) p q s =
      let f : reports l ≡ e = cc in subst (λ v. Fits v xs n) f (p, q)
  fits_by (Some (Ok (Moved (Wait None)))) o p q s = nothing s
  fits_by (Some (Ok (Moved (Wait (Some v))))) o p q s =
      let f : waits v.0 v.1 ≡ e = cc in subst (λ v. Fits v xs n) f p
  fits_by (Some (Ok (Moved (Ahead k)))) o p q s = nothing s
  fits_by (Some (Ok (Claimed r))) o p q s = nothing s
  fits_by (Some (Ok (Booked k))) o p q s = nothing s
  fits_by (Some (Ok Waived)) o p q s = nothing s
  fits_by (Some (Err why)) o p q s = nothing s

  -- what is shown is what is expected
  pub shown_fits : shown_by (last_answer None xs) (last_line None n.reports) ≡ Some e → Fits e xs n
  shown_fits s = fits_by _ _ refl refl s
