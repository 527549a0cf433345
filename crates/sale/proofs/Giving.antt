-- What a command that is given to a line prints. Assumes nothing.
use Rattle.std.proofs.Common.{◌≡◌, ℕ, ◌≤◌, List, [], ◌∷◌, ◌++◌, length, Some, None, Ok, Err, Result, sym, refl, ◌∙◌, subst, inl, inr, append-nil, arith}
use Rattle.keypad.specs.declared.timers.Timers.{Timers}
use Rattle.keypad.specs.Entries.{Entries}
use Rattle.key_record.specs.declared.answer.Progress.{Progress}
use Rattle.key_record.specs.declared.call.Call.{Call}
use Rattle.key_record.specs.declared.call.Call.TheVariants as call
use Rattle.key_record.specs.declared.call.Numbers.{Numbers}
use Rattle.key_record.specs.declared.ending.Ending.{Ending}
use Rattle.key_record.specs.declared.ending.Phase.{Phase}
use Rattle.key_record.specs.declared.ending.Phase.TheVariants as phase
use Rattle.key_record.specs.declared.refusal.Refusal.{Refusal}
use Rattle.key_record.specs.declared.refusal.Refusal.TheVariants.{NotDone}
use Rattle.key_record.specs.Effects.{Effect, refuses, queues, begins, presses, claims, settles, Replies}
use Rattle.key_record.specs.States.{State}
use Rattle.commands.specs.declared.command.Command.{Command}
use Rattle.commands.specs.declared.command.Command.TheVariants.{Close}
use Rattle.commands.specs.Told.{told_line}
use Rattle.line.specs.declared.line.Line.{Line}
use Rattle.line.specs.Closing.{Closes}
use Rattle.line.specs.Does.{Does, moved}
use Rattle.line.specs.Lines.{state_of}
use Rattle.line.specs.Written.{written}
use Rattle.line.proofs.Refusing.{refusing}
use Rattle.sale.specs.Commands.{closing, calls_of, answer_line}
use Rattle.sale.specs.Printing.{Given, Printed}
use Rattle.sale.proofs.Booking.{closed_gives}

-- a call that moves the line on, or is refused, writes nothing
written_moved : (a : Entries) (st : State) (f : Effect) (r : Result Progress Refusal) → Replies a st f
    (moved r)
    → written f ≡ []
written_moved a st (refuses why) r h = refl
written_moved a st (queues k) r h = refl
written_moved a st (begins s out) r h = refl
written_moved a st (presses out) r h = refl
written_moved a st (claims e) r h = refl
written_moved a st (settles None) r h = refl
written_moved a st (settles (Some l)) (Ok p) h = absurd (let z : ◌≡◌ {A = ℕ} 0 1 = cc in omega arith)
written_moved a st (settles (Some l)) (Err why) h = absurd (let z : ◌≡◌ {A = ℕ} 0 1 = cc in omega arith)

moved_told : (r : Result Progress Refusal) → told_line r ≡ answer_line (moved r) ++ []
moved_told (Ok p) = sym (append-nil _)
moved_told (Err why) = sym (append-nil _)

-- a line that is not done is only claimed
closing_else : (p : Phase) (r : Numbers) (n : ℕ) → ((e : Ending) × (p ≡ phase.Done e) → ⊥)
    → closing p r n ≡ call.Claim ∷ []
closing_else phase.Idle r n never = refl
closing_else phase.Open r n never = refl
closing_else (phase.Done e) r n never = absurd (never (e, refl))
closing_else (phase.Claimed e) r n never = refl

module _ {X : Type 0} (whole rest : X → Entries) (l m : Line X) (t : Timers) (c : Command)
    (before mem : List ℕ)
    (count : ℕ) where
  -- one call, and what is told of its answer
  pub moved_given : (k : Call) (r : Result Progress Refusal) (text : List ℕ)
      → calls_of t (length before) (state_of l) c ≡ k ∷ [] → Does whole rest l k (moved r) m
      → text ≡ told_line r → Printed text before count mem → Given whole rest t l c before count m mem
  moved_given k r text calls d told printed =
      let none = written_moved (rest m.plan) (state_of m) d.effect r d.answered in
      let wrote : [] ≡ written d.effect ++ [] = cc (append-nil (written d.effect)) in
      (text, (moved r ∷ [], [], rw calls (m, d, [], wrote, (refl, refl)), told ∙ moved_told r), printed)

  module _ (close : c ≡ Close) where
    pub closed_given : Closes whole rest l before m mem (Ok count) → Given whole rest t l c before count m mem
    closed_given (inl (room, inl (h, (n, both)))) =
        (_, closed_gives whole rest l m t before mem h.0 h.1 both c close, (cc, both.memory))
    closed_given (inl (room, inr (never, (e, same, kept)))) =
        absurd (let z : ◌≡◌ {A = ℕ} 0 1 = cc in omega arith)
    closed_given (inr (short, (e, same, kept))) = absurd (let z : ◌≡◌ {A = ℕ} 0 1 = cc in omega arith)

    not_done : ((e : Ending) × (l.phase ≡ phase.Done e) → ⊥)
        → calls_of t (length before) (state_of l) c ≡ call.Claim ∷ []
    not_done never =
        rw (
          close,
          closing_else l.phase (record { number = l.number; count = l.count })
              (length before) never,
        )

    -- a line that could not be closed, with memory enough, was not done
    pub declined_given : (why : Refusal) (mid text : List ℕ) → 85 ≤ length before
        → Closes whole rest l before m mid (Err why) → text ≡ told_line (Err why) → Printed text mid count mem
        → Given whole rest t l c before count m mem
    declined_given why mid text long (inl (room, inl (h, (n, both)))) told printed =
        absurd (let z : ◌≡◌ {A = ℕ} 0 1 = cc in omega arith)
    declined_given why mid text long (inl (room, inr (never, (e, same, kept)))) told printed =
        let claim = refusing whole rest l call.Claim NotDone (inr (never, refl)) in
        let reason : NotDone ≡ why = cc in
        moved_given call.Claim (Err why) text (not_done never) (rw (same, ← reason) claim) told
        (subst (λ bs. Printed text bs count mem) kept printed)
    declined_given why mid text long (inr (short, h)) told printed = absurd (short long)
