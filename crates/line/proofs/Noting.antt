-- One call, noted with its reply and the report that it brought. Assumes nothing.
use Rattle.std.proofs.Common.{◌≡◌, ℕ, ◌+◌, ◌*◌, ◌≤◌, List, [], ◌∷◌, ◌++◌, map, Some, None, vec_items, vec_len, vec_capacity, Option, Vec, sym, refl, ap, ◌∙◌, arith, Result}
use Rattle.std.proofs.lemmas.List.{append-nil, map-append}
use Rattle.std.specs.declared.alloc.Global.{Global}
use Rattle.keypad.specs.declared.key.Symbol.{Symbol}
use Rattle.keypad.specs.Entries.{Entries}
use Rattle.key_record.specs.declared.answer.Answer.{Answer}
use Rattle.key_record.specs.declared.answer.Reply.{Reply}
use Rattle.key_record.specs.declared.call.Call.{Call}
use Rattle.key_record.specs.declared.ending.Ending.{Ending}
use Rattle.key_record.specs.declared.ending.Phase.TheVariants.{Done}
use Rattle.key_record.specs.declared.refusal.Refusal.{Refusal}
use Rattle.key_record.specs.declared.timer.Timer.{Timer}
use Rattle.key_record.specs.Agreement.{Reported as ReportedAs}
use Rattle.key_record.specs.Effects.{Effect, refuses, queues, begins, presses, claims, settles, after, Replies}
use Rattle.key_record.specs.States.{State, Running}
use Rattle.key_record.specs.Turns.{still, over}
use Rattle.line_parts.specs.declared.report.Report.{Report}
use Rattle.line.specs.declared.play.Played.{Played}
use Rattle.line.specs.Does.{Does}
use Rattle.line.specs.Lines.{state_of}
use Rattle.line.specs.Plays.{report_shown, brought, Called, Noted}
use Rattle.line.specs.Written.{written}
use Rattle.line.specs.Reports.{Reported, Brings}
use Rattle.line.specs.Rooms.{Room}

-- a report or none, as a list of what it shows
abbrev pub listed : Option Report → List ReportedAs
listed None = []
listed (Some r) = report_shown r ∷ []

listed_done : (e : Ending) (d : List Symbol) (r : Option Report) → Reported (Done e) d r
    → listed r ≡ record { dial = d; ending = e } ∷ []
listed_done e d None h = absurd h
listed_done e d (Some r) h = let p = h.0 in let q = h.1 in cc

-- the report that is told after an effect is the one that the effect brought
listed_brought : (a : Entries) (old st : State) (f : Effect) (x : Result Answer Refusal) (r : Option Report) → st
    ≡ after old f
    → Replies a st f x → Brings x st.phase st.dial r → listed r ≡ brought st f
listed_brought a old st (refuses why) x r e h b = ap listed (rw h at b)
listed_brought a old st (queues k) x r e h b = ap listed (rw h at b)
listed_brought a old st (begins s (still p t)) x r e h b = ap listed (rw h.2 at b)
listed_brought a old st (begins s (over o)) x r e h b =
    listed_done o.ending st.dial r (rw (ap (λ (q : State). q.phase) e) at (rw h at b))
listed_brought a old st (presses (still p t)) x r e h b = ap listed (rw h.2 at b)
listed_brought a old st (presses (over o)) x r e h b =
    listed_done o.ending st.dial r (rw (ap (λ (q : State). q.phase) e) at (rw h at b))
listed_brought a old st (claims u) x r e h b = ap listed (rw h at b)
listed_brought a old st (settles None) x r e h b = ap listed (rw h at b)
listed_brought a old st (settles (Some l)) x r e h b = ap listed (rw h at b)

-- the call on p, with its report noted in q
pub record Brought {X : Type 0} (whole rest : X → Entries) (p : Played X) (c : Call) (x : Result Answer Refusal)
    (q : Played X) : Type 0 where
  pub does : Does whole rest p.line c x q.line
  pub replies : q.log.replies ≡ p.log.replies
  pub reports : map report_shown (vec_items q.log.reports)
      ≡ map report_shown (vec_items p.log.reports) ++ brought (state_of q.line) does.effect
  pub lines : vec_items q.log.lines ≡ vec_items p.log.lines ++ written does.effect
  pub room : (n : ℕ) → Room p.log (n + 1) → (vec_len q.log.reports + n ≤ vec_capacity q.log.reports)
      × (vec_len q.log.lines + 85 * n ≤ vec_capacity q.log.lines)

module _ {X : Type 0} (whole rest : X → Entries) (p : Played X) (c : Call) (x : Result Answer Refusal) (q : Played X) where
  -- what the report told after the call adds to the reports
  brought_by_call : (d : Called whole rest p c x q) (r : Option Report)
      → Brings x q.line.phase (state_of q.line).dial r → (v : Vec Report Global)
      → map report_shown (vec_items v) ≡ map report_shown (vec_items q.log.reports) ++ listed r
      → vec_len v ≤ vec_len q.log.reports + 1 → vec_capacity v ≡ vec_capacity q.log.reports
      → Brought whole rest p c x
      (record {
        line = q.line;
        log = record { replies = q.log.replies; reports = v; lines = q.log.lines };
      })
  brought_by_call d r b v items few same =
      let st = state_of q.line in
      let told = listed_brought (rest q.line.plan) (state_of p.line) st d.does.effect x r
      d.does.state
      d.does.answered b in
      let len = ap vec_len d.reports in
      let kept = ap vec_capacity d.reports in
      record {
        does = d.does;
        replies = d.replies;
        reports = items ∙ ap (λ u. map report_shown (vec_items u) ++ listed r) d.reports
            ∙ ap (λ l. map report_shown (vec_items p.log.reports) ++ l) told;
        lines = d.lines;
        room = λ n h. (omega arith, omega arith);
      }

  pub brought_one : Called whole rest p c x q → (r : Report)
      → Brings x q.line.phase (state_of q.line).dial (Some r) → (v : Vec Report Global) → vec_items v
      ≡ vec_items q.log.reports ++ r ∷ []
      → vec_len v ≡ vec_len q.log.reports + 1 → vec_capacity v ≡ vec_capacity q.log.reports
      → Brought whole rest p c x
      (record {
        line = q.line;
        log = record { replies = q.log.replies; reports = v; lines = q.log.lines };
      })
  brought_one d r b v items len same = brought_by_call d (Some r) b v
      (ap (map report_shown) items ∙ map-append report_shown (vec_items q.log.reports) (r ∷ []))
      (omega arith) same

  pub brought_none : Called whole rest p c x q → Brings x q.line.phase (state_of q.line).dial None
      → Brought whole rest p c x q
  brought_none d b = brought_by_call d None b q.log.reports
      (sym (append-nil (map report_shown (vec_items q.log.reports)))) (omega arith) refl

  pub noted : Brought whole rest p c x q → (t : Option (Timer × ℕ))
      → Running (state_of q.line) (rest q.line.plan) t → (v : Vec Reply Global)
      → vec_items v ≡ vec_items q.log.replies ++ (record { answer = x; timer = t }) ∷ []
      → vec_len v ≡ vec_len q.log.replies + 1 → vec_capacity v ≡ vec_capacity q.log.replies
      → Noted whole rest p c
      (record {
        line = q.line;
        log = record { replies = v; reports = q.log.reports; lines = q.log.lines };
      })
  noted b t h v items len same =
      let y : Reply = record { answer = x; timer = t } in
      let few = ap vec_len b.replies in
      let kept = ap vec_capacity b.replies in
      record {
        reply = y;
        does = b.does;
        running = h;
        replies = items ∙ ap (λ u. vec_items u ++ y ∷ []) b.replies;
        reports = b.reports;
        lines = b.lines;
        room = λ n k. let u = b.room n k in record { replies = omega arith; reports = u.0; lines = u.1 };
      }
