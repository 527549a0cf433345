-- What a row gives, from what telling it gives. Assumes nothing.
use Rattle.std.proofs.Common.{◌≡◌, ℕ, List, [], ◌∷◌, ◌++◌, IfOk, Ok, Err, string_bytes, Result, String, sym, subst, append_assoc}
use Rattle.keypad.specs.declared.key.Symbol.{Symbol}
use Rattle.plan_report.specs.Rows.{RowTold}
use Rattle.plancheck.specs.declared.make.Make.{Make}
use Rattle.plancheck.specs.declared.stop.Stop.{Stop}
use Rattle.plancheck.specs.Makes.{entries_of}
use Rattle.plancheck.specs.Materials.{materials}
use Rattle.plancheck.specs.Outcomes.{OutcomeTold, RowLines, pressed, stopped}
use Rattle.plancheck.specs.Stops.{Tried}
use Rattle.plancheck.specs.Stores.{Store}

module _ {Z : Type 0} (k : Store) (m : Make) (ss : List Symbol) where
  -- the lines of the keys, or why there are none
  pub row_lines : (bs : List ℕ) (r : Result (String Z) Stop) → Tried k (materials m) r →
      IfOk r (λ s. RowTold (entries_of k m) ss (string_bytes s)) → OutcomeTold r bs → RowLines k m ss bs
  row_lines bs (Ok s) fit told e = pressed fit (subst (RowTold (entries_of k m) ss) (sym e) told)
  row_lines bs (Err s) unfit told e = stopped s unfit e

-- a text, a line feed and another text, written one behind another from nothing
pub fed_text : (start wrote fed out feed a b : List ℕ) → start ≡ [] → wrote ≡ start ++ a →
    fed ≡ wrote ++ feed → feed ≡ 10 ∷ [] → out ≡ fed ++ b → out ≡ a ++ 10 ∷ b
fed_text start wrote fed out feed a b e f g h i = cc (append_assoc a (10 ∷ []) b)
