-- What the lines of an input give. Assumes nothing.
use Rattle.std.specs.Prelude.{◌≡◌, ℕ, List, [], ◌∷◌, ◌++◌, length, codes, ◌≢◌}
use Rattle.plancheck.specs.declared.command.Command.{Command}
use Rattle.plancheck.specs.Blanks.{Clear, Parts}
use Rattle.plancheck.specs.Names.{command_word}
use Rattle.plancheck.specs.Outcomes.{ShowLine}
use Rattle.plancheck.specs.Replies.{question, MapLine, LotsLine, CodeLine}
use Rattle.plancheck.specs.Stores.{Store, fresh}

-- what is printed of a line and what is kept then, by the word before its first blank and the text behind it
pub data Answers (k : Store) (all : List ℕ) : List ℕ → Store → Type 0 where
  by_map : {text bs : List ℕ} {after : Store} → Parts all (codes "map") text → MapLine k text bs after →
      Answers k all bs after
  by_lots : {text bs : List ℕ} {after : Store} → Parts all (codes "lots") text → LotsLine k text bs after →
      Answers k all bs after
  by_code : {text bs : List ℕ} {after : Store} → Parts all (codes "code") text → CodeLine k text bs after →
      Answers k all bs after
  by_show : {text bs : List ℕ} → Parts all (codes "show") text → ShowLine k all text bs → Answers k all bs k
  bare : Clear all (length all) → Answers k all question k
  wordless : {word text : List ℕ} → Parts all word text → ((c : Command) → word ≢ command_word c) →
      Answers k all question k

-- what is printed of lines, one behind another, each by what the ones before it left
abbrev pub Transcript : Store → List (List ℕ) → List ℕ → Type 0
Transcript k [] bs = bs ≡ []
Transcript k (l ∷ ls) bs =
    (after : Store) × (x : List ℕ) × (y : List ℕ) × Answers k l x after × Transcript after ls y
    × (bs ≡ x ++ y)

-- lines are printed in one way only
abbrev pub Determined : List (List ℕ) → Type 0
Determined ls = (x y : List ℕ) → Transcript fresh ls x → Transcript fresh ls y → x ≡ y
