-- A text is its own cut, and what is added to it in parts is added as one. Assumes nothing.
use Rattle.std.proofs.Common.{◌≡◌, ℕ, List, [], ◌++◌, sym, ap, ◌∙◌}
use Rattle.std.proofs.lemmas.List.{append_assoc, append-nil, take_all}
use Rattle.keypad.proofs.Lists.{take_cut}
use Rattle.keypad.proofs.Rows.{listed_within}
use Rattle.line_parts.specs.declared.text.Text.{Text}
use Rattle.line_parts.specs.Texts.{text_of, cut}

-- nothing added
pub added_nil : (t : Text) → text_of t ≡ cut (text_of t ++ [])
added_nil t =
    sym (ap cut (append-nil (text_of t)) ∙ take_all 85 (text_of t) (listed_within t.bytes))

pub added-++ : (t xs ys : List ℕ) {u v : List ℕ} → u ≡ cut (t ++ xs) → v ≡ cut (u ++ ys) →
    v ≡ cut (t ++ (xs ++ ys))
added-++ t xs ys p q =
    q ∙ (ap (λ l. cut (l ++ ys)) p ∙ (take_cut 85 (t ++ xs) ys ∙ ap cut (append_assoc t xs ys)))
