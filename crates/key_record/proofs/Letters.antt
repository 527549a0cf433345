-- How long a report line is. Assumes nothing.
use Rattle.std.proofs.Common.{◌≡◌, ◌+◌, ◌≤◌, List, [], ◌∷◌, length, refl, ◌∙◌, arith}
use Rattle.std.proofs.lemmas.List.{length-append}
use Rattle.keypad.specs.declared.key.Symbol.{Symbol}
use Rattle.keypad.specs.declared.key.Symbol.TheVariants.{Plain, Long}
use Rattle.key_record.specs.declared.ending.Ending.{Ending}
use Rattle.key_record.specs.declared.ending.Method.{Method}
use Rattle.key_record.specs.declared.ending.Method.TheVariants.{Unambiguous, Full, Partial}
use Rattle.key_record.specs.declared.ending.Trigger.{Trigger}
use Rattle.key_record.specs.declared.ending.Trigger.TheVariants.{Press, Extra, Expiry}
use Rattle.key_record.specs.Dials.{width, chars}
use Rattle.key_record.specs.Letters.{symbol_text, dial_text, expiry_text, method_text, extra_text}
use Rattle.key_record.specs.Letters.{report_line}
use Rattle.key_record.proofs.Dials.{width_bounds}

pub symbol_length : (y : Symbol) → length (symbol_text y) ≡ width y
symbol_length (Plain k) = refl
symbol_length (Long k) = refl

pub dial_length : (d : List Symbol) → length (dial_text d) ≡ chars d
dial_length [] = refl
dial_length (y ∷ d) =
    let h = dial_length d in
    let s = symbol_length y in
    length-append (symbol_text y) (dial_text d) ∙ omega arith

method_length : (m : Method) → length (method_text m) ≡ 2
method_length Unambiguous = refl
method_length Full = refl
method_length Partial = refl

-- a timer and an extra never stand in one line
trigger_length : (t : Trigger) → length (expiry_text t) + length (extra_text t) ≤ 9
trigger_length Press = omega arith
trigger_length (Extra y) =
    let s = symbol_length y in
    let w = width_bounds y in
    simp length-append (omega arith)
trigger_length (Expiry t) = omega arith

-- a report line has at most 85 bytes
pub report_length : (d : List Symbol) (e : Ending) → chars d ≤ 64 → length (report_line d e) ≤ 85
report_length d e h =
    let n = dial_length d in
    let m = method_length e.method in
    let t = trigger_length e.trigger in
    simp length-append (omega arith)
