-- What closing a line prints: its report line. Assumes nothing.
use Rattle.std.proofs.Common.{◌≡◌, ℕ, List, [], ◌∷◌, ◌++◌, length, refl, ap, ◌∙◌, subst, inl, inr, append-nil, arith, Ok}
use Rattle.keypad.specs.declared.timers.Timers.{Timers}
use Rattle.keypad.specs.Entries.{Entries}
use Rattle.key_record.specs.declared.answer.Answer.TheVariants as answer
use Rattle.key_record.specs.declared.call.Call.TheVariants.{Claim, Book}
use Rattle.key_record.specs.declared.call.Numbers.{Numbers}
use Rattle.key_record.specs.declared.ending.Ending.{Ending}
use Rattle.key_record.specs.declared.ending.Phase.TheVariants.{Done, Claimed}
use Rattle.key_record.specs.Effects.{Effect, claims, after, Replies}
use Rattle.key_record.specs.Letters.{report_line}
use Rattle.key_record.specs.Rules.{Claiming, Booking}
use Rattle.key_record.specs.States.{State, with_phase}
use Rattle.commands.specs.declared.command.Command.{Command}
use Rattle.commands.specs.declared.command.Command.TheVariants.{Close}
use Rattle.line_parts.specs.Dialled.{dialled}
use Rattle.line.specs.declared.line.Line.{Line}
use Rattle.line.specs.Closing.{Closed}
use Rattle.line.specs.Lines.{state_of}
use Rattle.line.specs.Written.{written}
use Rattle.sale.specs.Commands.{calls_of}
use Rattle.sale.specs.Printing.{DoesAll, Gives}

-- a done line is claimed with its ending
claim_claims : (st : State) (e : Ending) (f : Effect) → st.phase ≡ Done e → Claiming st f → f ≡ claims e
claim_claims st e f done (inl (h, p)) = let found = h.1 in cc
claim_claims st e f done (inr (never, p)) = absurd (never (e, done))

-- a booking that is answered with a length writes the report line
book_writes : (st : State) (e : Ending) (r : Numbers) (n k : ℕ) (a : Entries) (z : State) (f : Effect)
    → st.phase ≡ Claimed e → Booking st r n f → Replies a z f (Ok (answer.Booked k))
    → written f ≡ report_line st.dial e
book_writes st e r n k a z f claimed (inl (h, inl (fits, p))) booked = let found = h.1 in ap written p ∙ cc
book_writes st e r n k a z f claimed (inl (h, inr (never, p))) booked =
    let q = subst (λ x. Replies a z x (Ok (answer.Booked k))) p booked in
    absurd (let y : ◌≡◌ {A = ℕ} 0 1 = cc in omega arith)
book_writes st e r n k a z f claimed (inr (never, p)) booked =
    let q = subst (λ x. Replies a z x (Ok (answer.Booked k))) p booked in
    absurd (let y : ◌≡◌ {A = ℕ} 0 1 = cc in omega arith)

module _ {X : Type 0} (whole rest : X → Entries) (l m : Line X) (t : Timers) (before mem : List ℕ)
    (e : Ending)
    (done : l.phase ≡ Done e) where
  -- the report line of the line l, which is done
  abbrev line : List ℕ
  line = report_line (dialled l.dial) e

  module _ (both : Closed whole rest l before line m mem) where
    claimed_as : both.claimed.effect ≡ claims e
    claimed_as = claim_claims (state_of l) e both.claimed.effect done both.claimed.allowed

    mid_state : state_of both.mid ≡ with_phase (state_of l) (Claimed e)
    mid_state = subst (λ f. state_of both.mid ≡ after (state_of l) f) claimed_as both.claimed.state

    -- the receipt has the numbers of the line
    own_numbers : both.numbers ≡ record { number = l.number; count = l.count }
    own_numbers =
        let q = subst (λ f. Replies (rest both.mid.plan) (state_of both.mid) f
        (Ok (answer.Claimed both.numbers)))
        claimed_as both.claimed.answered in
        let number = ap (λ (st : State). st.number) mid_state in
        let count = ap (λ (st : State). st.count) mid_state in
        cc

    booked_line : written both.booked.effect ≡ line
    booked_line =
        let wrote = book_writes (state_of both.mid) e both.numbers (length before) (length line)
        (rest m.plan) (state_of m) both.booked.effect (ap (λ (st : State). st.phase) mid_state)
        both.booked.allowed both.booked.answered in
        let dial = ap (λ (st : State). st.dial) mid_state in
        cc

    both_calls : Claim ∷ Book both.numbers (length before) ∷ []
        ≡ calls_of t (length before) (state_of l) Close
    both_calls = rw (done, own_numbers)

    pub closed_gives : (c : Command) → c ≡ Close → Gives whole rest t (length before) l c line m
    closed_gives c is =
        let calls : Claim ∷ Book both.numbers (length before) ∷ [] ≡ calls_of t (length before)
        (state_of l) c =
        rw (is, both_calls) in
        let first : line ≡ written both.claimed.effect ++ line = rw claimed_as in
        let second : line ≡ written both.booked.effect ++ [] =
        cc (append-nil (written both.booked.effect), booked_line) in
        let xs = Ok (answer.Claimed both.numbers) ∷ Ok (answer.Booked (length line)) ∷ [] in (
          xs,
          line,
          subst (λ cs. DoesAll whole rest l cs xs line m) calls
              (both.mid, both.claimed, line, first, (m, both.booked, [], second, (refl, refl))),
          refl,
        )
