-- What is printed where a plan is shown. Assumes nothing.
use Rattle.std.specs.Prelude.{◌≡◌, ℕ, List, [], ◌∷◌, ◌++◌, length, Ok, Err, string_bytes, codes, decimal, Result, String, ◌≢◌}
use Rattle.keypad.specs.declared.key.Symbol.{Symbol}
use Rattle.map_report.specs.Escapes.{shown}
use Rattle.plan_report.specs.Rows.{RowTold}
use Rattle.plans.specs.Refusals.{refusal_number}
use Rattle.plancheck.specs.declared.make.Make.{Make}
use Rattle.plancheck.specs.declared.stop.Stop.{Stop}
use Rattle.plancheck.specs.declared.stop.Stop.TheVariants.{Mapless, Refused, Memory}
use Rattle.plancheck.specs.Blanks.{Clear, Parts}
use Rattle.plancheck.specs.Letters.{Spells}
use Rattle.plancheck.specs.Makes.{entries_of}
use Rattle.plancheck.specs.Materials.{AllFit, materials}
use Rattle.plancheck.specs.Names.{make_name}
use Rattle.plancheck.specs.Replies.{question}
use Rattle.plancheck.specs.Stops.{FirstUnfit}
use Rattle.plancheck.specs.Stores.{Store}

-- bs says why no plan is made: `no` and the refusal's number, or `no map`; nothing says that memory lacks
abbrev pub StopTold : Stop → List ℕ → Type 0
StopTold Mapless bs = bs ≡ codes "no map" ++ 10 ∷ []
StopTold (Refused r) bs = bs ≡ codes "no " ++ (decimal (refusal_number r) ++ 10 ∷ [])
StopTold (Memory e) bs = ⊥

module _ {Z : Type 0} where
  -- bs has the lines of the keys, or says why there are none
  abbrev pub OutcomeTold : Result (String Z) Stop → List ℕ → Type 0
  OutcomeTold (Ok s) bs = bs ≡ string_bytes s
  OutcomeTold (Err e) bs = StopTold e bs

-- what a row of symbols gives at a make: the lines of its keys where a plan can be made, and else why not
pub data RowLines (k : Store) (m : Make) (ss : List Symbol) : List ℕ → Type 0 where
  pressed : {bs : List ℕ} → AllFit k (materials m) → RowTold (entries_of k m) ss bs → RowLines k m ss bs
  stopped : (s : Stop) {bs : List ℕ} → FirstUnfit k (materials m) s → StopTold s bs → RowLines k m ss bs

-- a make's name, a blank and a row of symbols give the whole line as it is shown, and then what the row
-- gives; another text gives a question mark
pub data ShowLine (k : Store) (all text : List ℕ) : List ℕ → Type 0 where
  shows : {m : Make} {row bs : List ℕ} {ss : List Symbol} → Parts text (make_name m) row → Spells row ss →
      RowLines k m ss bs → ShowLine k all text (shown all ++ 10 ∷ bs)
  bare : Clear text (length text) → ShowLine k all text question
  nameless : {name row : List ℕ} → Parts text name row → ((m : Make) → name ≢ make_name m) →
      ShowLine k all text question
  misspelt : {name row : List ℕ} → Parts text name row → ((ss : List Symbol) → Spells row ss → ⊥) →
      ShowLine k all text question
