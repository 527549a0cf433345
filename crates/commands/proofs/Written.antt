-- The forms of commands: which bytes write one, and which write none. Assumes nothing.
use Rattle.std.proofs.Common.{◌≡◌, ℕ, suc, ◌+◌, ◌*◌, ◌/◌, ◌%◌, ◌<◌, List, [], ◌∷◌, map, length, get_or, Option, sym, refl, ap, ◌∙◌, subst, arith}
use Rattle.std.specs.List.{range_with_len}
use Rattle.std.proofs.lemmas.List.FromFn.{fill_by_all}
use Rattle.keypad.specs.Letters.{Letter}
use Rattle.key_record.specs.declared.settings.Disposition.{Disposition}
use Rattle.key_record.specs.declared.settings.Procedure.{Procedure}
use Rattle.key_record.specs.declared.timer.Timer.{Timer}
use Rattle.key_record.specs.Letters.{timer_letter_lem}
use Rattle.commands.specs.declared.command.Command.{Command}
use Rattle.commands.specs.declared.command.Command.TheVariants.{Arm, Key, Expire, Close}
use Rattle.commands.specs.Written.{Finds, Writes, Digit, procedure_letter, disposition_letter}
use Rattle.commands.specs.Written.Writes.{arm, tap, hold, expire, close}

-- two digits write the number that they make
pub hold_written : (k a b : ℕ) {letter tens units : ℕ} → Letter letter k → Digit tens a → Digit units b →
    Writes (107 ∷ letter ∷ tens ∷ units ∷ []) (Key (record { key = k; tenths = 10 * a + b }))
hold_written k a b (h, e) (l, p) (m, q) =
    let high : (10 * a + b) / 10 ≡ a = omega arith in
    let low : (10 * a + b) % 10 ≡ b = omega arith in
    let t : 10 * a + b < 100 = omega arith in
    let w = hold k (10 * a + b) h t in
    rw (e, p, q) (rw (high, low) at w)

-- what stands behind the first byte of each form
pub arm_parts : {b d : ℕ} {c : Command} → Writes (97 ∷ b ∷ d ∷ []) c →
    (p : Procedure) × (q : Disposition) × (b ≡ procedure_letter p) × (d ≡ disposition_letter q)
    × (c ≡ Arm p q)
arm_parts (arm p q) = (p, q, refl, refl, refl)

pub tap_parts : {b : ℕ} {c : Command} → Writes (107 ∷ b ∷ []) c →
    (k : ℕ) × Letter b k × (c ≡ Key (record { key = k; tenths = 1 }))
tap_parts (tap k h) = (k, (h, refl), refl)

pub hold_parts : {b x y : ℕ} {c : Command} → Writes (107 ∷ b ∷ x ∷ y ∷ []) c →
    (k : ℕ) × (t : ℕ) × Letter b k × Digit x (t / 10) × Digit y (t % 10)
    × (c ≡ Key (record { key = k; tenths = t }))
hold_parts (hold k t h l) = (k, t, (h, refl), (omega arith, refl), (omega arith, refl), refl)

pub expire_parts : {b : ℕ} {c : Command} → Writes (101 ∷ b ∷ []) c →
    (t : Timer) × (b ≡ timer_letter_lem t) × (c ≡ Expire t)
expire_parts (expire t) = (t, refl, refl)

pub close_parts : {c : Command} → Writes (99 ∷ []) c → c ≡ Close
close_parts close = refl

-- what is found of a first byte and the bytes behind it, place by place, is found of all
pub found_by_places : (bs : List ℕ) (n b : ℕ) (o : Option Command) → length bs ≡ suc n → get_or bs 0 0 ≡ b →
    Finds (Writes (b ∷ map (λ k. get_or bs k 0) (range_with_len 1 n))) o → Finds (Writes bs) o
found_by_places bs n b o h e f =
    let behind = map (λ k. get_or bs k 0) (range_with_len 1 n) in
    let l = fill_by_all (λ k. get_or bs k 0) bs (suc n) 0 h (λ k _. refl) ∙ ap (λ x. x ∷ behind) e in
    subst (λ bytes. Finds (Writes bytes) o) (sym l) f
