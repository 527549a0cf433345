-- Each command answers as its text has to be answered. Assumes nothing.
use Rattle.std.proofs.Common.{◌≡◌, ℕ, List, ap, ◌∙◌, subst}
use Rattle.plancheck.specs.declared.command.Command.{Command}
use Rattle.plancheck.specs.Blanks.{Parts}
use Rattle.plancheck.specs.Names.{command_word}
use Rattle.plancheck.specs.Outcomes.{ShowLine}
use Rattle.plancheck.specs.Replies.{question, MapLine, LotsLine, CodeLine}
use Rattle.plancheck.specs.Stores.{store_of}
use Rattle.plancheck.specs.Transcripts.{
  Answers,
  by_map,
  by_lots,
  by_code,
  by_show,
  bare,
  wordless,
}
use Rattle.plancheck.proofs.Replies.{gives_told, gives_weaker, gives_made}
use Rattle.plancheck.proofs.run.answer.Goals as goal

pub returns-in_default : goal.returns-in_default
returns-in_default c =
    gives_told (Answers (store_of c.args.kept.now) c.args.line.now) c.args.kept.now question
    c.unknown.result c.unknown.ensures (bare c.in_default.ensures)

pub returns-in_default-command_of : goal.returns-in_default-command_of
returns-in_default-command_of c =
    gives_told (Answers (store_of c.args.kept.now) c.args.line.now) c.args.kept.now question
    c.unknown-in_default-command_of.result c.unknown-in_default-command_of.ensures
    (wordless c.in-Some.ensures c.in_default-command_of.ensures)

-- the word is that of the command
parts : (all word text : List ℕ) (x y : Command) → Parts all word text → word ≡ command_word x → x ≡ y →
    Parts all (command_word y) text
parts all word text x y h e f = subst (λ (w : List ℕ). Parts all w text) (e ∙ ap command_word f) h

pub returns-in-Map : goal.returns-in-Map
returns-in-Map c =
    let k = store_of c.args.kept.now in
    let line = c.args.line.now in
    let text = c.in-Some.text.now in
    let here = parts line _ text _ _ c.in-Some.ensures c.in-Some-command_of.ensures
    c.in-Map.is in
    gives_weaker (MapLine k text) (Answers k line) _ _ c.keep_map.result (λ bs after h. by_map here h)
    c.keep_map.ensures.gives

pub returns-in-Lots : goal.returns-in-Lots
returns-in-Lots c =
    let k = store_of c.args.kept.now in
    let line = c.args.line.now in
    let text = c.in-Some.text.now in
    let here = parts line _ text _ _ c.in-Some.ensures c.in-Some-command_of.ensures
    c.in-Lots.is in
    gives_weaker (LotsLine k text) (Answers k line) _ _ c.keep_lots.result (λ bs after h. by_lots here h)
    c.keep_lots.ensures.gives

pub returns-in-Code : goal.returns-in-Code
returns-in-Code c =
    let k = store_of c.args.kept.now in
    let line = c.args.line.now in
    let text = c.in-Some.text.now in
    let here = parts line _ text _ _ c.in-Some.ensures c.in-Some-command_of.ensures
    c.in-Code.is in
    gives_weaker (CodeLine k text) (Answers k line) _ _ c.keep_code.result (λ bs after h. by_code here h)
    c.keep_code.ensures.gives

pub returns-in-Show : goal.returns-in-Show
returns-in-Show c =
    let k = store_of c.args.kept.now in
    let line = c.args.line.now in
    let text = c.in-Some.text.now in
    let here = parts line _ text _ _ c.in-Some.ensures c.in-Some-command_of.ensures
    c.in-Show.is in
    gives_made (ShowLine k line text) (Answers k line) c.args.kept.now c.show.result
    (λ bs h. by_show here h) c.show.ensures
