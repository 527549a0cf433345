-- What a claim that was answered tells, and that its booking is then not refused. Assumes nothing.
use Rattle.std.proofs.Common.{◌≡◌, ℕ, ◌≤◌, List, length, Some, Ok, Err, IsOk, Result, refl, sym, ap, subst, inl, inr, arith}
use Rattle.keypad.specs.Entries.{Entries}
use Rattle.key_record.specs.declared.answer.Answer.TheVariants as answer
use Rattle.key_record.specs.declared.call.Call.TheVariants.{Claim, Book}
use Rattle.key_record.specs.declared.call.Numbers.{Numbers}
use Rattle.key_record.specs.declared.ending.Ending.{Ending}
use Rattle.key_record.specs.declared.ending.Phase.TheVariants.{Done, Claimed}
use Rattle.key_record.specs.declared.refusal.Refusal.{Refusal}
use Rattle.key_record.specs.Effects.{Effect, settles, after, Replies}
use Rattle.key_record.specs.Letters.{report_line}
use Rattle.key_record.specs.Rules.{Claiming, Booking}
use Rattle.key_record.specs.States.{State, with_phase}
use Rattle.key_record.proofs.Letters.{report_length}
use Rattle.line_parts.specs.Dialled.{dialled}
use Rattle.line.specs.declared.line.Line.{Line}
use Rattle.line.specs.declared.receipt.Receipt.{Receipt}
use Rattle.line.specs.Closing.{Closed, Closes}
use Rattle.line.specs.Does.{Does}
use Rattle.line.specs.Lines.{state_of}
use Rattle.line.specs.Settled.{Booked, Writes}

-- the line st was done with the ending, is now claimed as mid, and the numbers are its own
record Handed (st mid : State) (n : Numbers) : Type 0 where
  ending : Ending
  done : st.phase ≡ Done ending
  after_it : mid ≡ with_phase st (Claimed ending)
  own : n ≡ record { number = mid.number; count = mid.count }

handed : (st mid : State) (n : Numbers) (a : Entries) (f : Effect) → Claiming st f → mid ≡ after st f
    → Replies a mid f (Ok (answer.Claimed n)) → Handed st mid n
handed st mid n a f (inl (h, p)) state answered = record {
  ending = h.0;
  done = h.1;
  after_it = subst (λ x. mid ≡ after st x) p state;
  own = let q = subst (λ x. Replies a mid x (Ok (answer.Claimed n))) p answered in cc;
}
handed st mid n a f (inr (never, p)) state answered =
    let q = subst (λ x. Replies a mid x (Ok (answer.Claimed n))) p answered in
    absurd (let z : ◌≡◌ {A = ℕ} 0 1 = cc in omega arith)

-- a claimed line books by its own numbers wherever there is room for 85 bytes
settled : (st mid : State) (n : Numbers) (h : Handed st mid n) (room : ℕ) (f : Effect)
    → length (report_line mid.dial h.ending) ≤ 85 → 85 ≤ room → Booking mid n room f
    → f ≡ settles (Some (report_line st.dial h.ending))
settled st mid n h room f short long (inl (p, inl (fits, q))) =
    let phase = ap (λ x. x.phase) h.after_it in
    let dial = ap (λ x. x.dial) h.after_it in
    let found = p.1 in
    cc
settled st mid n h room f short long (inl (p, inr (never, q))) =
    let phase = ap (λ x. x.phase) h.after_it in
    let found = p.1 in
    let e : p.0 ≡ h.ending = cc in
    absurd (never (subst (λ x. length (report_line mid.dial x) ≤ room) (sym e) (omega arith)))
settled st mid n h room f short long (inr (never, q)) =
    let phase = ap (λ x. x.phase) h.after_it in
    absurd (never (h.ending, phase, ap (λ x. x.number) h.own, ap (λ x. x.count) h.own))

module _ {X : Type 0} (whole rest : X → Entries) (l mid m : Line X) (r : Receipt) (before mem : List ℕ)
    (room : 85 ≤ length before) (claimed : Does whole rest l Claim (Ok (answer.Claimed r.numbers)) mid) where
  claim_handed : Handed (state_of l) (state_of mid) r.numbers
  claim_handed = handed (state_of l) (state_of mid) r.numbers (rest mid.plan) claimed.effect
      claimed.allowed claimed.state claimed.answered

  -- the line of the report that was claimed
  abbrev line : List ℕ
  line = report_line (dialled l.dial) claim_handed.ending

  book_settles : (x : Result ℕ (Refusal × Receipt)) (b : Booked whole rest mid r before x m mem)
      → b.does.effect ≡ settles (Some line)
  book_settles x b =
      settled (state_of l) (state_of mid) r.numbers claim_handed (length before) b.does.effect
      (report_length (dialled mid.dial) claim_handed.ending (omega arith)) room b.does.allowed

  pub book_accepted : (x : Result ℕ (Refusal × Receipt)) → Booked whole rest mid r before x m mem → IsOk x
  book_accepted (Ok k) b = refl
  book_accepted (Err e) b =
      let q = subst (λ f. Replies (rest m.plan) (state_of m) f (Err e.0))
      (book_settles (Err e) b) b.does.answered in
      absurd (let z : ◌≡◌ {A = ℕ} 0 1 = cc in omega arith)

  pub closed : (k : ℕ) → Booked whole rest mid r before (Ok k) m mem → Closes whole rest l before m mem (Ok k)
  closed k b =
      let s = book_settles (Ok k) b in
      let q = subst (λ f. Replies (rest m.plan) (state_of m) f (Ok (answer.Booked k))) s b.does.answered in
      let n : k ≡ length line = cc in
      let book = Book r.numbers (length before) in
      let both : Closed whole rest l before line m mem = record {
        mid = mid;
        numbers = r.numbers;
        claimed = claimed;
        booked = subst (λ x. Does whole rest mid book (Ok (answer.Booked x)) m) n b.does;
        memory = subst (λ f. Writes f before mem) s b.memory;
      } in
      inl (room, inl ((claim_handed.ending, claim_handed.done), (ap Ok n, both)))
