-- What is shown of a text, byte by byte. Assumes nothing.
use Rattle.std.proofs.Common.{◌≡◌, ℕ, zero, suc, ◌+◌, ◌-◌, ◌^◌, ◌<◌, false, List, [], ◌∷◌, ◌++◌, length, get_or, take, replicate, sym, refl, ap, ◌∙◌, append_assoc, arith, eqb, ne_eqb}
use native.Mathlib.Nat.{sub-zero}
use Rattle.std.proofs.Math.Utf8.{encode}
use Rattle.std.specs.Fmt.{padded, format_spec, styled_text, char_count, take_chars}
use Rattle.std.specs.List.{repeat}
use Rattle.std.proofs.lemmas.List.{append-nil, take_more}
use Rattle.map_report.specs.Escapes.{escape, shown}

-- one byte again and again
repeat_one : (n b : ℕ) → repeat n (b ∷ []) ≡ replicate n b
repeat_one zero b = refl
repeat_one (suc n) b = ap (λ (bs : List ℕ). b ∷ bs) (repeat_one n b)

-- what `{:n$}` prints of no text
pub blanks : (n : ℕ) → styled_text (format_spec 32 0 0 n (2 ^ 64 - 1)) [] ≡ replicate n 32
unfolding padded char_count take_chars encode
blanks zero = refl
blanks (suc n) =
    let some : eqb (suc n) 0 ≡ false = ne_eqb (suc n) 0 (λ h. omega arith) in
    rw some (simp sub-zero (repeat_one (suc n) 32))

-- a byte behind a text
shown_push : (bs : List ℕ) (b : ℕ) → shown (bs ++ b ∷ []) ≡ shown bs ++ escape b
shown_push [] b = append-nil (escape b)
shown_push (x ∷ bs) b =
    ap (λ (r : List ℕ). escape x ++ r) (shown_push bs b) ∙ sym (append_assoc (escape x) (shown bs) (escape b))

-- one byte more of a text
pub shown_more : (bs : List ℕ) (n : ℕ) → n < length bs →
    shown (take (n + 1) bs) ≡ shown (take n bs) ++ escape (get_or bs n 0)
shown_more bs n h = ap shown (take_more bs n 0 h) ∙ shown_push (take n bs) (get_or bs n 0)
