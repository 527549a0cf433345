-- Calls played on a record of keys, by facts. Assumes nothing.
use Rattle.std.proofs.Common.{List, [], ◌∷◌, length, Some, None, refl, Ok, Err, Result}
use Rattle.keypad.specs.declared.key.Symbol.{Symbol}
use Rattle.keypad.specs.Entries.{Entries}
use Rattle.keypad.specs.Sets.{Remains}
use Rattle.key_record.specs.declared.answer.Answer.{Answer}
use Rattle.key_record.specs.declared.answer.Answer.TheVariants as say
use Rattle.key_record.specs.declared.answer.Progress.TheVariants.{Done, Wait, Ahead}
use Rattle.key_record.specs.declared.answer.Reply.{Reply}
use Rattle.key_record.specs.declared.call.Call.{Call}
use Rattle.key_record.specs.declared.call.Call.TheVariants as call
use Rattle.key_record.specs.declared.refusal.Refusal.{Refusal}
use Rattle.key_record.specs.Turns.{Outcome, still, over}
use Rattle.key_record.specs.States.{State}
use Rattle.key_record.specs.Effects.{Effect, refuses, queues, begins, presses, claims, settles}
use Rattle.key_record.specs.Effects.{Progresses, Replies}
use Rattle.key_record.specs.Rules.{Allows}
use Rattle.key_record.specs.Record.{Kept, note, Steps, Runs}
use Rattle.sale_cases.proofs.Facts.{Facts, Knows, Decides}
use Rattle.sale_cases.proofs.Waits.{running, runs}
use Rattle.sale_cases.proofs.Rules.{arming, keying, expiring, armed, keyed, expired}
use Rattle.sale_cases.proofs.Settlements.{claiming, settling, booking, claimed, booked, waived}

abbrev pub effect : (List Symbol → Facts) → State → Call → Effect
effect m st (call.Arm s) = arming m st s
effect m st (call.Key k) = keying m st k
effect m st (call.Expire t) = expiring m st t
effect m st call.Claim = claiming st.phase
effect m st (call.Book r n) = settling st r st.phase (booking st n)
effect m st (call.Waive r) = settling st r st.phase (λ e. settles None)

-- the answers, the facts being of what remains after the call
abbrev pub progress : Facts → State → Outcome → Result Answer Refusal
progress k st (still p t) = Ok (say.Moved (Wait (running st k)))
progress k st (over o) = Ok (say.Moved Done)

abbrev pub answer : Facts → State → Effect → Result Answer Refusal
answer k st (refuses why) = Err why
answer k st (queues e) = Ok (say.Moved (Ahead (length st.ahead)))
answer k st (begins s out) = progress k st out
answer k st (presses out) = progress k st out
answer k st (claims e) = Ok (say.Claimed (record { number = st.number; count = st.count }))
answer k st (settles None) = Ok say.Waived
answer k st (settles (Some l)) = Ok (say.Booked (length l))

abbrev pub reply : Facts → State → Effect → Reply
reply k st f = record { answer = answer k st f; timer = running st k }

-- the record after a call, and after calls with the replies to them
abbrev pub next : (List Symbol → Facts) → Kept → Call → Kept
next m r c = note r (effect m r.state c)

-- the reply to a call
abbrev pub reply_to : (List Symbol → Facts) → Kept → Call → Reply
reply_to m r c = let st = (next m r c).state in reply (m st.dial) st (effect m r.state c)

abbrev pub played : (List Symbol → Facts) → Kept → List Call → Kept
played m r [] = r
played m r (c ∷ cs) = played m (next m r c) cs

abbrev pub replies : (List Symbol → Facts) → Kept → List Call → List Reply
replies m r [] = []
replies m r (c ∷ cs) = reply_to m r c ∷ replies m (next m r c) cs

module _ (a : Entries) (k : Facts) (h : Knows a k) (st : State) where
  progressed : (out : Outcome) → Progresses a st out (progress k st out)
  progressed (still p t) = (running st k, runs a k h st, refl)
  progressed (over o) = refl

  answered : (f : Effect) → Replies a st f (answer k st f)
  answered (refuses why) = refl
  answered (queues e) = refl
  answered (begins s out) = progressed out
  answered (presses out) = progressed out
  answered (claims e) = refl
  answered (settles None) = refl
  answered (settles (Some l)) = refl

module _ (w : Entries) (m : List Symbol → Facts) (h : Decides w m) where
  allowed : (st : State) (c : Call) → Allows st w (Remains w st.dial) c (effect m st c)
  allowed st (call.Arm s) = armed w m h st s
  allowed st (call.Key k) = keyed w m h st k
  allowed st (call.Expire t) = expired w m h st t
  allowed st call.Claim = claimed st
  allowed st (call.Book r n) = booked st r n
  allowed st (call.Waive r) = waived st r

  stepped : (r : Kept) (c : Call) → Steps w r c (reply_to m r c) (next m r c)
  stepped r c =
      let st = (next m r c).state in
      let k = h st.dial in
      record {
        effect = effect m r.state c;
        allowed = allowed r.state c;
        noted = refl;
        answered = answered (Remains w st.dial) (m st.dial) k st (effect m r.state c);
        running = runs (Remains w st.dial) (m st.dial) k st;
      }

  -- the calls, played so, are a run
  pub plays : (r : Kept) (cs : List Call) → Runs w r cs (replies m r cs) (played m r cs)
  plays r [] = refl
  plays r (c ∷ cs) = (next m r c, stepped r c, plays (next m r c) cs)
