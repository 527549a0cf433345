-- Bytes write at most one command. Assumes nothing.
use Rattle.std.proofs.Common.{◌≡◌, ℕ, cond, eqb, List, sym, refl, ap, ◌∙◌, arith}
use Rattle.std.proofs.lemmas.Bool.Decides.{nat_tests}
use Rattle.keypad.specs.Letters.{Letter}
use Rattle.key_record.specs.declared.settings.Disposition.{Disposition}
use Rattle.key_record.specs.declared.settings.Disposition.TheVariants.{Keep, Drop}
use Rattle.key_record.specs.declared.settings.Procedure.{Procedure}
use Rattle.key_record.specs.declared.settings.Procedure.TheVariants.{Base, Shortest}
use Rattle.key_record.specs.declared.timer.Timer.{Timer}
use Rattle.key_record.specs.declared.timer.Timer.TheVariants.{Start, Short, Long}
use Rattle.key_record.specs.Letters.{timer_letter_lem}
use Rattle.commands.specs.declared.command.Command.{Command}
use Rattle.commands.specs.Written.{Writes, procedure_letter, disposition_letter}
use Rattle.commands.specs.Written.Writes.{arm, tap, hold, expire, close}
use Rattle.commands.proofs.Written.{arm_parts, tap_parts, hold_parts, expire_parts, close_parts}

-- what can be told back from its letter has a letter of its own
own_letter : {A : Type 0} (letter : A → ℕ) (back : ℕ → A) → ((x : A) → back (letter x) ≡ x) →
    {x y : A} → letter x ≡ letter y → x ≡ y
own_letter letter back told {x} {y} e = sym (told x) ∙ (ap back e ∙ told y)

procedure_once : {p q : Procedure} → procedure_letter p ≡ procedure_letter q → p ≡ q
procedure_once =
    let back = λ (b : ℕ). cond (eqb b 98) Base Shortest in
    own_letter procedure_letter back (λ p. elim p as (λ v. back (procedure_letter v) ≡ v) [
      | Base ↦ refl
      | Shortest ↦ refl
    ])

disposition_once : {p q : Disposition} → disposition_letter p ≡ disposition_letter q → p ≡ q
disposition_once =
    let back = λ (b : ℕ). cond (eqb b 107) Keep Drop in
    own_letter disposition_letter back (λ d. elim d as (λ v. back (disposition_letter v) ≡ v) [
      | Keep ↦ refl
      | Drop ↦ refl
    ])

timer_once : {s t : Timer} → timer_letter_lem s ≡ timer_letter_lem t → s ≡ t
timer_once =
    let back = λ (b : ℕ). cond (eqb b 84) Start (cond (eqb b 83) Short Long) in
    own_letter timer_letter_lem back (λ t. elim t as (λ v. back (timer_letter_lem v) ≡ v) [
      | Start ↦ refl
      | Short ↦ refl
      | Long ↦ refl
    ])

key_once : {b k j : ℕ} → Letter b k → Letter b j → k ≡ j
key_once (h, e) (l, f) = grind (arith, nat_tests)

pub written_once : {bs : List ℕ} {c d : Command} → Writes bs c → Writes bs d → c ≡ d
written_once (arm p q) w =
    let i = arm_parts w in
    let first = procedure_once i.2 in
    let second = disposition_once i.3 in
    cc
written_once (tap k h) w =
    let i = tap_parts w in
    let key = key_once (h, refl) i.1 in
    cc
written_once (hold k t h l) w =
    let i = hold_parts w in
    let key = key_once (h, refl) i.2 in
    let tenths : t ≡ i.1 = omega arith in
    cc
written_once (expire t) w =
    let i = expire_parts w in
    let timer = timer_once i.1 in
    cc
written_once close w = sym (close_parts w)
