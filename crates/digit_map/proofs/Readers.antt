-- A part of a text, read on. Assumes nothing.
use Rattle.std.proofs.Common.{ℕ, List, ◌∙◌, subst}
use Rattle.digit_map.specs.declared.token.Token.{Token}
use Rattle.digit_map.specs.declared.token.Cursor.{Cursor}
use Rattle.digit_map.specs.declared.reader.Reader.{Reader}
use Rattle.digit_map.specs.Tokens.{Next}
use Rattle.digit_map.specs.Readers.{SamePart}

module _ {r b : Reader} (same : SamePart r b) where
  pub joined : {w : Reader} → SamePart b w → SamePart r w
  joined h = record { text = h.text ∙ same.text; base = h.base ∙ same.base }

  -- what holds of the part where a reader stands, by the part where it began
  pub by_part : (P : List ℕ → ℕ → Type 0) → P b.text.now b.base → P r.text.now r.base
  by_part P h = subst (λ t. P t r.base) same.text (subst (λ n. P b.text.now n) same.base h)

  pub next_by_part : {c after : Cursor} {x : Token} → Next b.text.now b.base c x after
      → Next r.text.now r.base c x after
  next_by_part {c} {after} {x} h = by_part (λ t n. Next t n c x after) h
