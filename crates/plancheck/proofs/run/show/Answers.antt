-- The line itself, and then what its row gives. Assumes nothing.
use Rattle.std.proofs.Common.{◌≡◌, ℕ, List, ◌∷◌, ◌++◌, vec_items, string_bytes, sym, subst, lit<}
use Rattle.keypad.specs.declared.key.Symbol.{Symbol}
use Rattle.map_report.specs.Escapes.{shown}
use Rattle.std.proofs.lemmas.Option.{MatchOption-at_some, MatchOption-at_none}
use Rattle.plancheck.specs.Blanks.{Parts}
use Rattle.plancheck.specs.Letters.{Spells}
use Rattle.plancheck.specs.Outcomes.{RowLines, ShowLine, shows, bare, nameless, misspelt}
use Rattle.plancheck.specs.Replies.{question}
use Rattle.plancheck.specs.Stores.{store_of}
use Rattle.plancheck.proofs.Outcomes.{row_lines, fed_text}
use Rattle.plancheck.proofs.Replies.{made_told}
use Rattle.plancheck.proofs.run.show.Goals as goal

pub returns-in_default : goal.returns-in_default
returns-in_default c =
    made_told (ShowLine (store_of c.args.kept.now) c.args.line.now c.args.text.now) question
    c.unknown.result c.unknown.ensures (bare c.in_default.ensures)

pub returns-in_default-make_of : goal.returns-in_default-make_of
returns-in_default-make_of c =
    made_told (ShowLine (store_of c.args.kept.now) c.args.line.now c.args.text.now) question
    c.unknown-in_default-make_of.result c.unknown-in_default-make_of.ensures
    (nameless c.in-Some.ensures c.in_default-make_of.ensures)

pub returns-in_default-2 : goal.returns-in_default-2
returns-in_default-2 c =
    let keys = c.in-Some.keys.now in
    made_told (ShowLine (store_of c.args.kept.now) c.args.line.now c.args.text.now) question
    c.unknown-in_default-2.result c.unknown-in_default-2.ensures
    (misspelt c.in-Some.ensures (MatchOption-at_none ((ss : List Symbol) → Spells keys ss → ⊥) _
    c.in_default-2.is c.in_ok-row.ensures))

pub returns : goal.returns
returns c =
    let k = store_of c.args.kept.now in
    let line = c.args.line.now in
    let text = c.args.text.now in
    let keys = c.in-Some.keys.now in
    let make = c.in-Some-make_of.make in
    let row : List Symbol = vec_items c.in-Some-2.row in
    let lines : List ℕ = string_bytes c.in_ok-lines.lines in
    let parts = subst (λ (name : List ℕ). Parts text name keys) c.in-Some-make_of.ensures
    c.in-Some.ensures in
    let spelt = MatchOption-at_some _ (λ v. Spells keys (vec_items v)) c.in-Some-2.row c.in-Some-2.is
    c.in_ok-row.ensures in
    let told : RowLines k make c.deref.result.now lines =
    row_lines k make c.deref.result.now lines c.tell.result c.tell.ensures.cases
    c.tell.ensures.told c.in_ok-lines.ensures in
    let rows = subst (λ (ss : List Symbol). RowLines k make ss lines) c.deref.ensures.value told in
    let printed : string_bytes c.push_str.new.self ≡ shown line ++ 10 ∷ lines =
    fed_text _ _ _ _ _ (shown line) lines c.new-out.ensures.bytes
    c.in_ok-write_text.ensures
    c.in_ok-push.ensures.bytes (c.in_ok-push.ensures.ascii (lit< tt))
    (subst (λ (bs : List ℕ). string_bytes c.push_str.new.self ≡ string_bytes
    c.push.new.self ++ bs)
    c.as_str.ensures.value c.in_ok-push_str.ensures.bytes) in
    subst (λ (bs : List ℕ). ShowLine k line text bs) (sym printed) (shows parts spelt rows)
