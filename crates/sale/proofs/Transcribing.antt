-- What the commands of an input print, one behind another. Assumes nothing.
use Rattle.std.proofs.Common.{◌≡◌, ℕ, ◌≤◌, List, [], ◌∷◌, ◌++◌, length, take, drop, refl, ◌∙◌, append_assoc, arith, length-append}
use Rattle.std.proofs.lemmas.List.{take-append-le, take_all}
use Rattle.keypad.specs.declared.timers.Timers.{Timers}
use Rattle.keypad.specs.Entries.{Entries}
use Rattle.keypad.proofs.Sames.{same_refl}
use Rattle.key_record.specs.Record.{Kept, start}
use Rattle.key_record.specs.States.{made_with}
use Rattle.key_record.proofs.Phases.{idle_shut}
use Rattle.line.specs.declared.line.Line.{Line}
use Rattle.line.specs.Lines.{state_of}
use Rattle.line.proofs.Follows.{Follows}
use Rattle.sale.specs.Printing.{Prints, Printed}
use Rattle.sale.specs.Transcripts.{Transcript}
use Rattle.sale.proofs.Recording.{ordered}

-- what is printed has room in the memory, and is its front
pub printed_fits : (o before mem : List ℕ) (n : ℕ) → Printed o before n mem → n ≤ length mem
printed_fits o before mem n (e, stands) = rw (stands, length-append) (omega arith)

pub printed_front : (o before mem : List ℕ) (n : ℕ) → Printed o before n mem → take n mem ≡ o
printed_front o before mem n (e, stands) =
    rw (e, stands) (take-append-le (length o) o (drop (length o) before) (omega arith) ∙ take_all (length o) o
    (omega arith))

module _ {X : Type 0} (whole rest : X → Entries) (w : Entries) (t : Timers) (first : Kept)
    (all : List (List ℕ)) where
  -- all commands but the others have printed out, and the line l follows the record that they leave
  pub record Reached (others : List (List ℕ)) (out : List ℕ) (l : Line X) : Type 0 where
    pub kept : Kept
    pub follows : Follows whole rest w l kept
    pub so_far : (more : List ℕ) → Transcript w t kept others more → Transcript w t first all (out ++ more)

  -- one command more
  pub reached_more : (others bss : List (List ℕ)) (bs out grown o : List ℕ) (l m : Line X)
      → Reached others out l
      → others ≡ bs ∷ bss → Prints whole rest t 85 l bs o m → grown ≡ out ++ o → Reached bss grown m
  reached_more others bss bs out grown o l m h e prints g =
      let s = ordered whole rest w t l m h.kept bs o h.follows prints in
      record {
        kept = s.0;
        follows = s.2;
        so_far = λ more x.
            rw (g, append_assoc) (h.so_far (o ++ more) (rw e (o, s.0, s.1, (more, refl, x))));
      }

module _ {X : Type 0} (whole rest : X → Entries) (t : Timers) (all : List (List ℕ)) (l : Line X) (n : ℕ)
    (made : state_of l ≡ made_with n) where
  -- a line straight from its making follows the record's start
  pub reached_none : Reached whole rest (whole l.plan) t (start n) all all [] l
  reached_none = record {
    kept = start n;
    follows = record {
      state = made;
      wholly = same_refl (whole l.plan);
      remains = λ opened. absurd (idle_shut _ refl opened);
    };
    so_far = λ more x. x;
  }
