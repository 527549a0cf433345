-- A call that is no booking. Assumes nothing.
use Rattle.std.proofs.Common.{◌≡◌, ℕ, [], Some, None, Ok, Err, vec_items, MatchResult, IsOkAnd, IsErrAnd, Result, ap, sym, refl, subst, arith}
use Rattle.std.proofs.lemmas.List.{append-nil}
use Rattle.keypad.specs.Entries.{Entries}
use Rattle.key_record.specs.declared.answer.Answer.{Answer}
use Rattle.key_record.specs.declared.answer.Answer.TheVariants.{Moved, Claimed, Booked, Waived}
use Rattle.key_record.specs.declared.answer.Progress.{Progress}
use Rattle.key_record.specs.declared.call.Call.{Call}
use Rattle.key_record.specs.declared.refusal.Refusal.{Refusal}
use Rattle.key_record.specs.Effects.{Effect, refuses, queues, begins, presses, claims, settles, Replies}
use Rattle.key_record.specs.States.{State}
use Rattle.line.specs.declared.line.Line.{Line}
use Rattle.line.specs.declared.play.Played.{Played}
use Rattle.line.specs.declared.receipt.Receipt.{Receipt}
use Rattle.line.specs.Does.{Does, moved}
use Rattle.line.specs.Lines.{state_of}
use Rattle.line.specs.Plays.{Called}
use Rattle.line.specs.Written.{written}

-- an answer that is no booking
abbrev pub Unbooked : Result Answer Refusal → Type 0
Unbooked (Ok (Moved p)) = Unit {0}
Unbooked (Ok (Claimed r)) = Unit {0}
Unbooked (Ok (Booked n)) = ⊥
Unbooked (Ok Waived) = Unit {0}
Unbooked (Err why) = Unit {0}

pub moved_unbooked : (r : Result Progress Refusal) → Unbooked (moved r)
moved_unbooked (Ok p) = tt
moved_unbooked (Err why) = tt

-- a progress mapped to an answer
pub moved_as : (r : Result Progress Refusal) (x : Result Answer Refusal)
    → MatchResult r (λ p. IsOkAnd x (λ y. y ≡ Moved p)) (λ why. x ≡ Err why) → x ≡ moved r
moved_as (Ok p) (Ok y) h = ap Ok h
moved_as (Ok p) (Err why) h = absurd h
moved_as (Err why) x h = h

-- a settlement whose receipt has been taken apart
abbrev pub Unreceipted : {T : Type 0} → Result T (Refusal × Receipt) → Result T Refusal → Type 0
Unreceipted r x = MatchResult r (λ v. x ≡ Ok v) (λ e. IsErrAnd x (λ why. why ≡ e.0))

pub settled_ok : {T : Type 0} (r : Result T (Refusal × Receipt)) (x : Result T Refusal) (v : T) → x ≡ Ok v
    → Unreceipted r x → r ≡ Ok v
settled_ok (Ok w) x v e h = let z : x ≡ Ok w = h in cc
settled_ok (Err w) (Ok y) v e h = absurd h
settled_ok (Err w) (Err why) v e h = cc

pub settled_err : {T : Type 0} (r : Result T (Refusal × Receipt)) (x : Result T Refusal) (why : Refusal)
    → x ≡ Err why → Unreceipted r x → (back : Receipt) × (r ≡ Err (why, back))
settled_err (Ok v) x why e h = let z : x ≡ Ok v = h in absurd (let y : ◌≡◌ {A = ℕ} 0 1 = cc in omega arith)
settled_err (Err w) (Ok y) why e h = absurd h
settled_err (Err (said, back)) (Err u) why e h = (back, let z : u ≡ said = h in cc)

-- only a booking writes
unbooked_unwritten : (a : Entries) (st : State) (f : Effect) (x : Result Answer Refusal) → Unbooked x → Replies a st f x
    → written f ≡ []
unbooked_unwritten a st (refuses why) x u h = refl
unbooked_unwritten a st (queues k) x u h = refl
unbooked_unwritten a st (begins s out) x u h = refl
unbooked_unwritten a st (presses out) x u h = refl
unbooked_unwritten a st (claims e) x u h = refl
unbooked_unwritten a st (settles None) x u h = refl
unbooked_unwritten a st (settles (Some l)) x u h = absurd (subst Unbooked h u)

-- it leaves the log as it was
pub called_quietly : {X : Type 0} (whole rest : X → Entries) (p : Played X) (c d : Call) (x y : Result Answer Refusal)
    (m : Line X) → c ≡ d → x ≡ y → Unbooked y → Does whole rest p.line d y m
    → Called whole rest p c x (record { line = m; log = p.log })
called_quietly {X} whole rest p c d x y m e f u g =
    let q : Played X = record { line = m; log = p.log } in
    let h : Called whole rest p d y q = record {
      does = g;
      replies = refl;
      reports = refl;
      lines = rw (unbooked_unwritten (rest m.plan) (state_of m) g.effect y u g.answered)
          (sym (append-nil (vec_items p.log.lines)));
      more = omega arith;
      capacity = omega arith;
    } in
    subst (λ k. Called whole rest p k x q) (sym e) (subst (λ z. Called whole rest p d z q) (sym f) h)
