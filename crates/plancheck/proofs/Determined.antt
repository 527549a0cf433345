-- An input is printed in one way only. Assumes nothing.
use Rattle.std.proofs.Common.{◌≡◌, ℕ, List, [], ◌∷◌, sym, refl, ◌∙◌, subst}
use Rattle.plancheck.specs.declared.command.Command.{Command}
use Rattle.plancheck.specs.declared.command.Command.TheVariants as command
use Rattle.plancheck.specs.Blanks.{Parts}
use Rattle.plancheck.specs.Names.{command_word}
use Rattle.plancheck.specs.Outcomes.{ShowLine}
use Rattle.plancheck.specs.Replies.{question, MapLine, LotsLine, CodeLine}
use Rattle.plancheck.specs.Stores.{Store}
use Rattle.plancheck.specs.Transcripts as transcripts
use Rattle.plancheck.specs.Transcripts.{Answers, by_map, by_lots, by_code, by_show, wordless, Transcript}
use Rattle.plancheck.proofs.Alike.{Alike}
use Rattle.plancheck.proofs.Unique.{parts_one, parts_clear}
use Rattle.plancheck.proofs.Called.{command_one}
use Rattle.plancheck.proofs.Once.{map_one, lots_one, keys_one, show_one}

-- what a command does
abbrev Obeys : Store → List ℕ → Command → List ℕ → List ℕ → Store → Type 0
Obeys k all command.Map text x a = MapLine k text x a
Obeys k all command.Lots text x a = LotsLine k text x a
Obeys k all command.Code text x a = CodeLine k text x a
Obeys k all command.Show text x a = ShowLine k all text x × (a ≡ k)

-- a line is a command, or it is none
data AnswerView (k : Store) (all x : List ℕ) (a : Store) : Type 0 where
  asked : (c : Command) (text : List ℕ) → Parts all (command_word c) text → Obeys k all c text x a →
      AnswerView k all x a
  unasked : ((c : Command) (text : List ℕ) → Parts all (command_word c) text → ⊥) → x ≡ question → a ≡ k →
      AnswerView k all x a

answer_view : (k : Store) (all x : List ℕ) (a : Store) → Answers k all x a → AnswerView k all x a
answer_view k all x a (by_map p h) = asked command.Map _ p h
answer_view k all x a (by_lots p h) = asked command.Lots _ p h
answer_view k all x a (by_code p h) = asked command.Code _ p h
answer_view k all x a (by_show p h) = asked command.Show _ p (h, refl)
answer_view k all x a (transcripts.bare c) =
    unasked (λ d text p. parts_clear all (command_word d) text p c) refl refl
answer_view k all x a (wordless p none) =
    unasked (λ d text q. none d (parts_one all _ (command_word d) _ text p q).0) refl refl

module _ (k l : Store) (s : Alike k l) (all : List ℕ) where
  obeys_one : (c : Command) (text x y : List ℕ) (a b : Store) → Obeys k all c text x a →
      Obeys l all c text y b → (x ≡ y) × Alike a b
  obeys_one command.Map text x y a b h j = map_one k l s text x y a b h j
  obeys_one command.Lots text x y a b h j = lots_one k l s text x y a b h j
  obeys_one command.Code text x y a b h j = keys_one k l s text x y a b h j
  obeys_one command.Show text x y a b h j = (
    show_one k l s all text x y h.0 j.0,
    subst (λ (z : Store). Alike a z) (sym j.1) (subst (λ (z : Store). Alike z l) (sym h.1) s),
  )

  answer_view_one : (x y : List ℕ) (a b : Store) → AnswerView k all x a → AnswerView l all y b →
      (x ≡ y) × Alike a b
  answer_view_one x y a b (asked c text p h) (asked d rest q j) =
      let parts = parts_one all (command_word c) (command_word d) text rest p q in
      let moved = subst (λ (z : List ℕ). Obeys k all d z x a) parts.1
      (subst (λ (z : Command). Obeys k all z text x a) (command_one c d parts.0) h) in
      obeys_one d rest x y a b moved j
  answer_view_one x y a b (asked c text p h) (unasked none e f) = absurd (none c text p)
  answer_view_one x y a b (unasked none e f) (asked d rest q j) = absurd (none d rest q)
  answer_view_one x y a b (unasked none e f) (unasked nothing g i) =
      (e ∙ sym g, subst (λ (z : Store). Alike a z) (sym i) (subst (λ (z : Store). Alike z l) (sym f) s))

  -- one answer to a line, and one store behind it
  answer_one : (x y : List ℕ) (a b : Store) → Answers k all x a → Answers l all y b → (x ≡ y) × Alike a b
  answer_one x y a b h j = answer_view_one x y a b (answer_view k all x a h) (answer_view l all y b j)

-- one transcript of the lines of an input
pub transcript_one : (k l : Store) → Alike k l → (ls : List (List ℕ)) (x y : List ℕ) → Transcript k ls x →
    Transcript l ls y → x ≡ y
transcript_one k l s [] x y h j = h ∙ sym j
transcript_one k l s (t ∷ ts) x y h j =
    let one = answer_one k l s t h.1 j.1 h.0 j.0 h.3 j.3 in
    let rest = transcript_one h.0 j.0 one.1 ts h.2 j.2 h.4 j.4 in
    cc (h.5, j.5, one.0, rest)
