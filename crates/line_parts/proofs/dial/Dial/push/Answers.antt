-- One symbol more: where its characters fit, it finds a place. Assumes nothing.
use Rattle.std.proofs.Common.{◌≡◌, ◌+◌, ◌≤◌, List, cond, [], ◌∷◌, ◌++◌, take, ap, ◌∙◌, arith}
use borrow.Author.Tests.{true-leb}
use Rattle.std.proofs.lemmas.List.{take_all}
use Rattle.keypad.specs.declared.key.Symbol.{Symbol}
use Rattle.key_record.specs.Dials.{width, chars}
use Rattle.key_record.proofs.Dials.{chars_push, length_chars}
use Rattle.line_parts.specs.Dialled.{dialled}
use Rattle.line_parts.proofs.dial.Dial.push.Goals as goal

-- nothing is left out
all : (d : List Symbol) (y : Symbol) → chars d + width y ≤ 64 → take 64 (d ++ y ∷ []) ≡ d ++ y ∷ []
all d y fits =
    let w = chars_push d y in
    let n = length_chars (d ++ y ∷ []) in
    take_all 64 (d ++ y ∷ []) (omega arith)

pub invariant_of-self : goal.invariant_of-self
invariant_of-self c =
    let d = c.args.self.now in
    let y = c.args.symbol in
    let fits = true-leb _ _ c.if-takes.ensures in
    let e = ap chars (c.push.ensures ∙ all (dialled d) y fits) ∙ chars_push (dialled d) y in
    record { counted = omega arith; short = omega arith }

pub returns-then-takes : goal.returns-then-takes
returns-then-takes c =
    let d = dialled c.args.self.now in
    let y = c.args.symbol in
    c.push.ensures
    ∙ (all d y (true-leb _ _ c.if-takes.ensures) ∙ ap (λ b. cond b (d ++ y ∷ []) d) c.if-takes.ensures)
