-- A line made of a plan's answers. Assumes nothing.
use Rattle.std.proofs.Common.{◌≡◌, ℕ, Bool, List, IfOk, Ok, Err, string_bytes, Result, String, ap, ◌∙◌}
use Rattle.keypad.specs.Answers.{Tells, Pressed}
use Rattle.keypad.specs.Entries.{Entries}
use Rattle.keypad.specs.Sets.{Starts}
use Rattle.keypad.specs.declared.key.Symbol.{Symbol}
use Rattle.plan_report.specs.declared.standing.Standing.{Standing}
use Rattle.plan_report.specs.Keys.{KeyTold}
use Rattle.plan_report.specs.Listings.{Listed, symbols}
use Rattle.plan_report.specs.Standings.{Stands}
use Rattle.plan_report.specs.Words.{key_line}

module _ {Z Y : Type 0} (before after : Entries) (s : Symbol) (opens taken : Bool) where
  -- the line of a key's answers, of how the plan stands behind it and of the symbols that it opens then
  pub key_told : (st : Standing) (names given : List ℕ) (r : Result (String Z) Y) →
      Tells (Starts before s) opens → Pressed before s taken after → Stands after st →
      Listed after symbols names → given ≡ names →
      IfOk r (λ x. string_bytes x ≡ key_line s opens taken st given) →
      IfOk r (λ x. KeyTold before after s (string_bytes x))
  key_told st names given (Ok x) opened pressed stands listed e tells = record {
    opens = opens;
    opened = opened;
    taken = taken;
    pressed = pressed;
    line = record {
      standing = st;
      stands = stands;
      names = names;
      next = listed;
      tells = tells ∙ ap (key_line s opens taken st) e;
    };
  }
  key_told st names given (Err y) opened pressed stands listed e tells = tt
