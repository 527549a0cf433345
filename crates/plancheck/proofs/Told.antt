-- Rows that are told of the same entries. Assumes nothing.
use Rattle.std.proofs.Common.{◌≡◌, ℕ, List, IfOk, Ok, Err, string_bytes, Result, String, sym, subst}
use Rattle.keypad.specs.Entries.{Entries}
use Rattle.keypad.specs.Sets.{Same}
use Rattle.keypad.specs.declared.key.Symbol.{Symbol}
use Rattle.plan_report.specs.Rows.{RowTold}
use Rattle.keypad.proofs.Sames.{same_trans}
use Rattle.plan_report.proofs.Rows.{row_same}
use Rattle.plans.specs.Coded.{Behind}
use Rattle.plans.specs.Behind.{behind_same}
use Rattle.plans.specs.Pairs.{Either}
use Rattle.plans.proofs.Pairs.{either_same}
use Rattle.plancheck.specs.declared.make.Make.{Make}
use Rattle.plancheck.specs.Makes.{coded_entries, entries_of}
use Rattle.plancheck.specs.Stores.{Store}

-- the same entries behind the same code
pub coded_same : (ks ls : List ℕ) (a b : Entries) → ks ≡ ls → Same a b → Same (Behind ks a) (Behind ls b)
coded_same ks ls a b e s = subst (λ (ms : List ℕ). Same (Behind ks a) (Behind ms b)) e (behind_same ks a b s)

-- a set behind a code, and the same code
pub behind_code : (ks ls : List ℕ) (made a : Entries) → ks ≡ ls → Same made (Behind ks a) → Same made (Behind ls a)
behind_code ks ls made a e s = subst (λ (ms : List ℕ). Same made (Behind ms a)) e s

-- two sets side by side, each the same as another
pub pair_of : (made a b x y : Entries) → Same made (Either a b) → Same a x → Same b y → Same made (Either x y)
pair_of made a b x y s p q = same_trans made (Either a b) (Either x y) s (either_same a b x y p q)

-- a set behind the code that is kept, and the same set
pub coded_of : (k : Store) (made a x : Entries) → Same made (coded_entries k a) → Same a x →
    Same made (coded_entries k x)
coded_of k made a x s p = same_trans made (coded_entries k a) (coded_entries k x) s (behind_same k.code a x p)

module _ {Z Y : Type 0} (row : List Symbol) where
  -- a row that is told of some entries is told of the same entries
  pub told_same : (a b : Entries) (r : Result (String Z) Y) → Same a b →
      IfOk r (λ s. RowTold a row (string_bytes s)) → IfOk r (λ s. RowTold b row (string_bytes s))
  told_same a b (Ok s) same h = row_same a b row (string_bytes s) same h
  told_same a b (Err y) same h = tt

  -- a row that is told of the entries of a make
  pub told_of : (k : Store) (m n : Make) (a : Entries) (r : Result (String Z) Y) → m ≡ n →
      Same a (entries_of k n) → IfOk r (λ s. RowTold a row (string_bytes s)) →
      IfOk r (λ s. RowTold (entries_of k m) row (string_bytes s))
  told_of k m n a r e same h =
      subst (λ (l : Make). IfOk r (λ s. RowTold (entries_of k l) row (string_bytes s))) (sym e)
      (told_same a (entries_of k n) r same h)
