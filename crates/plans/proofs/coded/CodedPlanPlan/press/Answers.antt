-- What is left of the coded plan after a press behind the code, and after one that keys it. Assumes nothing.
use Rattle.std.proofs.Common.{ℕ, ◌+◌, List, drop}
use Rattle.keypad.specs.Entries.{Entries}
use Rattle.keypad.specs.Rows.{listed}
use Rattle.plans.specs.Coded.{Behind}
use Rattle.plans.specs.Questions.{pressed_same}
use Rattle.plans.specs.Behind.{pressed_behind, spent}
use Rattle.plans.proofs.coded.CodedPlanPlan.press.Goals as goal

pub returns-in_default-clause-rest : goal.returns-in_default-clause-rest
returns-in_default-clause-rest g c =
    let p = c.args.self.now in
    let ks : List ℕ = drop p.at (listed p.keys) in
    let a : Entries = g.P.Plan.rest p.part in
    let b : Entries = g.P.Plan.rest c.press.new.self in
    let keyed = c.in_default.ensures in
    pressed_same a (Behind ks a) b (Behind ks b) c.args.symbol _ (spent ks a keyed) (spent ks b keyed)
    c.press.ensures.rest

pub returns-then-taken-clause-rest : goal.returns-then-taken-clause-rest
returns-then-taken-clause-rest g c =
    let p = c.args.self.now in
    rw c.in-Some.ensures
    (pressed_behind c.in-Some.key (drop (p.at + 1) (listed p.keys)) (g.P.Plan.rest p.part)
    c.args.symbol _ c.if-taken.true c.takes-taken.ensures)
