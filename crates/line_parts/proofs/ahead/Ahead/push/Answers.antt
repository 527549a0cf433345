-- One key more at the end, if there is a place for it. Assumes nothing.
use Rattle.std.proofs.Common.{◌≡◌, ℕ, ◌≤◌, List, [], ◌∷◌, ◌++◌, length, take, cond, nat_lt, inl, inr, ◌∙◌, arith}
use Rattle.std.proofs.lemmas.Bool.{cases_lt, cond_above, cond_below}
use Rattle.std.proofs.lemmas.List.{take_all, take-append-le, length-append}
use Rattle.keypad.proofs.Rows.{listed_within}
use Rattle.line_parts.specs.Queued.{queued}
use Rattle.line_parts.proofs.ahead.Ahead.push.Goals as goal

one_more : {A : Type 0} (n : ℕ) (xs : List A) (x : A) → length xs ≤ n →
    take n (xs ++ x ∷ []) ≡ cond (nat_lt (length xs) n) (xs ++ x ∷ []) xs
one_more n xs x h = elim (cases_lt (length xs) n) [
  | inl below ↦
      let l = length-append xs (x ∷ []) in
      take_all n (xs ++ x ∷ []) (omega arith) ∙ cond_below (length xs) n _ _ below
  | inr above ↦
      cond_above (length xs) n _ _ _ above (take-append-le n xs (x ∷ []) above ∙ take_all n xs h)
]

pub returns : goal.returns
returns c =
    let q = c.args.self.now in
    c.push.ensures ∙ one_more 32 (queued q) c.args.event (listed_within q.events)
