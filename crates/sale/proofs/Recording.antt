-- The calls that a command makes are steps of the record that the line follows. Assumes nothing.
use Rattle.std.proofs.Common.{◌≡◌, ℕ, List, [], ◌∷◌, ◌++◌, Some, None, sym, refl, ap, ◌∙◌, subst, inl, inr, append_assoc, append-nil, Result}
use Rattle.keypad.specs.declared.timers.Timers.{Timers}
use Rattle.keypad.specs.Entries.{Entries}
use Rattle.key_record.specs.declared.answer.Answer.{Answer}
use Rattle.key_record.specs.declared.call.Call.{Call}
use Rattle.key_record.specs.declared.refusal.Refusal.{Refusal}
use Rattle.key_record.specs.Agreement.{joined}
use Rattle.key_record.specs.Effects.{Effect, refuses, queues, begins, presses, claims, settles}
use Rattle.key_record.specs.Record.{Kept, note}
use Rattle.key_record.specs.Turns.{still, over}
use Rattle.line.specs.declared.line.Line.{Line}
use Rattle.line.specs.Written.{written}
use Rattle.line.proofs.Follows.{Follows, allowed_on, answered_on, follows_on}
use Rattle.sale.specs.Commands.{calls_of, last_line}
use Rattle.sale.specs.Printing.{DoesAll, Prints}
use Rattle.sale.specs.Transcripts.{TakesAll, Orders}

-- the report lines that an effect writes
abbrev lines_of : Effect → List (List ℕ)
lines_of (refuses why) = []
lines_of (queues k) = []
lines_of (begins s out) = []
lines_of (presses out) = []
lines_of (claims e) = []
lines_of (settles None) = []
lines_of (settles (Some l)) = l ∷ []

noted_lines : (r : Kept) (f : Effect) → (note r f).lines ≡ r.lines ++ lines_of f
noted_lines r (refuses why) = sym (append-nil r.lines)
noted_lines r (queues k) = sym (append-nil r.lines)
noted_lines r (begins s (still p t)) = sym (append-nil r.lines)
noted_lines r (begins s (over o)) = sym (append-nil r.lines)
noted_lines r (presses (still p t)) = sym (append-nil r.lines)
noted_lines r (presses (over o)) = sym (append-nil r.lines)
noted_lines r (claims e) = sym (append-nil r.lines)
noted_lines r (settles None) = sym (append-nil r.lines)
noted_lines r (settles (Some l)) = refl

joined_written : (f : Effect) (ls : List (List ℕ)) → joined (lines_of f ++ ls) ≡ written f ++ joined ls
joined_written (refuses why) ls = refl
joined_written (queues k) ls = refl
joined_written (begins s out) ls = refl
joined_written (presses out) ls = refl
joined_written (claims e) ls = refl
joined_written (settles None) ls = refl
joined_written (settles (Some l)) ls = refl

module _ {X : Type 0} (whole rest : X → Entries) (w : Entries) where
  -- the record r takes the calls and writes the bytes bs, and the line m follows what it then is
  record Recorded (r : Kept) (cs : List Call) (xs : List (Result Answer Refusal)) (bs : List ℕ) (m : Line X) : Type 0 where
    kept : Kept
    lines : List (List ℕ)
    takes : TakesAll w r cs xs kept
    follows : Follows whole rest w m kept
    grown : kept.lines ≡ r.lines ++ lines
    bytes : bs ≡ joined lines

  recorded : (cs : List Call) (xs : List (Result Answer Refusal)) (l m : Line X) (r : Kept) (bs : List ℕ)
      → Follows whole rest w l r
      → DoesAll whole rest l cs xs bs m → Recorded r cs xs bs m
  recorded [] [] l m r bs f (none, same) = record {
    kept = r;
    lines = [];
    takes = refl;
    follows = rw same f;
    grown = sym (append-nil r.lines);
    bytes = none;
  }
  recorded [] (x ∷ xs) l m r bs f d = absurd d
  recorded (c ∷ cs) [] l m r bs f d = absurd d
  recorded (c ∷ cs) (x ∷ xs) l m r bs f (k, d, more, e, ds) =
      let own = lines_of d.effect in
      let n = note r d.effect in
      let s = recorded cs xs k m n more (follows_on whole rest w l k r c x f d) ds in
      record {
        kept = s.kept;
        lines = own ++ s.lines;
        takes = (
          n,
          (
            d.effect,
            allowed_on whole rest w l k r c x f d,
            refl,
            answered_on whole rest w l k r c x f d,
          ),
          s.takes,
        );
        follows = s.follows;
        grown = s.grown ∙ ap (λ ls. ls ++ s.lines) (noted_lines r d.effect)
            ∙ append_assoc r.lines own s.lines;
        bytes = e ∙ ap (λ bs. written d.effect ++ bs) s.bytes ∙ sym
            (joined_written d.effect s.lines);
      }

  -- what a line prints for a command, the record that it follows orders
  pub ordered : (t : Timers) (l m : Line X) (r : Kept) (bs o : List ℕ) → Follows whole rest w l r
      → Prints whole rest t 85 l bs o m → (n : Kept) × Orders w t r bs o n × Follows whole rest w m n
  ordered t l m r bs o f (inl (never, e, same)) = (r, inl (never, e, refl), rw same f)
  ordered t l m r bs o f (inr (c, writes, (xs, more, does, e))) =
      let s = recorded (calls_of t 85 r.state c) xs l m r more f
      (subst (λ st. DoesAll whole rest l (calls_of t 85 st c) xs more m) f.state does) in (
        s.kept,
        inr (c, writes, xs, s.lines, s.takes, s.grown, e ∙ ap (λ bs. last_line xs ++ bs) s.bytes),
        s.follows,
      )
