-- A booking with at most 85 bytes lent. Assumes nothing.
use Rattle.std.proofs.Common.{◌≡◌, ℕ, ◌+◌, ◌-◌, ◌≤◌, min, Bool, true, cond, List, ◌++◌, length, take, drop, Some, None, vec_items, vec_len, vec_capacity, Vec, refl, ap, ◌∙◌, subst, inl, inr, arith, Ok, Result}
use Rattle.std.proofs.lemmas.List.{append_assoc, length-append, length-take, take_all, take-append-le}
use Rattle.std.specs.declared.alloc.Global.{Global}
use Rattle.keypad.specs.Entries.{Entries}
use Rattle.key_record.specs.declared.answer.Answer.{Answer}
use Rattle.key_record.specs.declared.answer.Answer.TheVariants.{Booked}
use Rattle.key_record.specs.declared.call.Call.TheVariants.{Book}
use Rattle.key_record.specs.declared.call.Numbers.{Numbers}
use Rattle.key_record.specs.declared.refusal.Refusal.{Refusal}
use Rattle.key_record.specs.Dials.{chars}
use Rattle.key_record.specs.Effects.{Effect, refuses, queues, begins, presses, claims, settles, Replies}
use Rattle.key_record.specs.Rules.{Allows}
use Rattle.key_record.specs.States.{State}
use Rattle.key_record.specs.Turns.{still, over}
use Rattle.key_record.proofs.Letters.{report_length}
use Rattle.line.specs.declared.line.Line.{Line}
use Rattle.line.specs.declared.play.Played.{Played}
use Rattle.line.specs.Does.{Does}
use Rattle.line.specs.Lines.{state_of}
use Rattle.line.specs.Plays.{Called}
use Rattle.line.specs.Written.{written}
use Rattle.line.specs.Settled.{Writes}

take_front : (l t : List ℕ) → take (length l) (l ++ t) ≡ l
take_front l t = take-append-le (length l) l t (omega arith) ∙ take_all (length l) l (omega arith)

-- two answers that differ
clashing : {A : Type 0} → ◌≡◌ {A = ℕ} 0 1 → A
clashing e = absurd (omega arith)

-- the effect's line, n bytes long, stands at the start of the memory
abbrev Lies : Effect → ℕ → List ℕ → Type 0
Lies f n after = (n ≡ length (written f)) × (behind : List ℕ) × (after ≡ written f ++ behind)

-- a booking answers the length of the line that it wrote
booked_lies : (a : Entries) (st : State) (f : Effect) (n : ℕ) (before after : List ℕ)
    → Replies a st f (Ok (Booked n)) → Writes f before after → Lies f n after
booked_lies a st (refuses why) n before after h m = clashing (cc)
booked_lies a st (queues k) n before after h m = clashing (cc)
booked_lies a st (begins s (still p t)) n before after h m = clashing (let e = h.2 in cc)
booked_lies a st (begins s (over o)) n before after h m = clashing (cc)
booked_lies a st (presses (still p t)) n before after h m = clashing (let e = h.2 in cc)
booked_lies a st (presses (over o)) n before after h m = clashing (cc)
booked_lies a st (claims e) n before after h m = clashing (cc)
booked_lies a st (settles None) n before after h m = clashing (cc)
booked_lies a st (settles (Some l)) n before after h m = (cc, drop (length l) before, m)

-- the line lies within the memory, and is what is taken from it, whatever bytes follow
module _ (a : Entries) (st : State) (f : Effect) (n : ℕ) (before after : List ℕ)
    (h : Replies a st f (Ok (Booked n))) (m : Writes f before after) where
  pub booked_within : n ≤ length after
  booked_within =
      let b = booked_lies a st f n before after h m in
      omega (arith, b.0, ap length b.2 ∙ length-append (written f) b.1)

  booked_bytes : (k : ℕ) (behind : List ℕ) → k ≡ n → take k (after ++ behind) ≡ written f
  booked_bytes k behind e =
      let b = booked_lies a st f n before after h m in
      ap (λ l. take k (l ++ behind)) b.2 ∙ ap (take k) (append_assoc (written f) b.1 behind)
      ∙ ap (λ i. take i (written f ++ (b.1 ++ behind))) (e ∙ b.0) ∙ take_front (written f) (b.1 ++ behind)

-- memory of 85 bytes takes every report line
books_longer : (st : State) (w a : Entries) (r : Numbers) (k n : ℕ) (f : Effect) → chars st.dial ≤ 64
    → k ≡ min n 85 → Allows st w a (Book r k) f → Allows st w a (Book r n) f
books_longer st w a r k n f short h (inr x) = inr x
books_longer st w a r k n f short h (inl (presents, inl (room, e))) = inl (presents, inl ((omega arith), e))
books_longer st w a r k n f short h (inl (presents, inr (full, e))) =
    let most = report_length st.dial presents.0 short in
    inl (presents, inr (λ room. full (omega arith), e))

module _ {X : Type 0} (whole rest : X → Entries) where
  -- a booking with the first k bytes lent of memory of 85
  pub does_longer : (l m : Line X) (r s : Numbers) (n k : ℕ) (memory : List ℕ) (x : Result Answer Refusal)
      → Does whole rest l (Book s (length (take (k - 0) memory))) x m → s ≡ r → length memory ≡ 85
      → k ≡ min n 85 → Does whole rest l (Book r n) x m
  does_longer l m r s n k memory x d e long h =
      let lent = length (take (k - 0) memory) in
      record {
        effect = d.effect;
        allowed = subst (λ z. Allows (state_of l) (whole l.plan) (rest l.plan) (Book z n) d.effect) e
            (books_longer (state_of l) (whole l.plan) (rest l.plan) s lent n d.effect (omega arith)
            (length-take (k - 0) memory ∙ omega arith) d.allowed);
        state = d.state;
        answered = d.answered;
        same = d.same;
        remains = d.remains;
        unmoved = d.unmoved;
      }

  -- and its line, b bytes long, joins those noted
  pub called_booking : (p : Played X) (v : Vec ℕ Global) (m : Line X) (r s : Numbers) (n k b : ℕ)
      (memory after behind : List ℕ) (ok : Bool)
      (d : Does whole rest p.line (Book s (length (take (k - 0) memory))) (Ok (Booked b)) m)
      → Writes d.effect (take (k - 0) memory) after → s ≡ r → length memory ≡ 85 → k ≡ min n 85
      → length after ≡ length (take (k - 0) memory)
      → vec_items v
      ≡ cond ok (vec_items p.log.lines ++ take (b - 0) (after ++ behind)) (vec_items p.log.lines)
      → (vec_len p.log.lines + length (take (b - 0) (after ++ behind)) ≤ vec_capacity p.log.lines
      → ok ≡ true)
      → vec_len p.log.lines + 85 ≤ vec_capacity p.log.lines → vec_capacity p.log.lines ≤ vec_capacity v
      → Called whole rest p (Book r n) (Ok (Booked b))
      (record { line = m; log = record { replies = p.log.replies; reports = p.log.reports; lines = v } })
  unfolding does_longer
  called_booking p v m r s n k b memory after behind ok d w e long h same items fits room grows =
      let a = rest m.plan in
      let before = take (k - 0) memory in
      let more = take (b - 0) (after ++ behind) in
      let bytes : more ≡ written d.effect =
      booked_bytes a (state_of m) d.effect b before after d.answered w (b - 0) behind (omega arith) in
      let within = booked_within a (state_of m) d.effect b before after d.answered w in
      let lent = length-take (k - 0) memory in
      let few : length more ≤ 85 = simp length-take (omega arith) in
      let yes : ok ≡ true = fits (omega arith) in
      let all : vec_items v ≡ vec_items p.log.lines ++ more = rw yes at items in
      record {
        does = does_longer p.line m r s n k memory (Ok (Booked b)) d e long h;
        replies = refl;
        reports = refl;
        lines = rw bytes at all;
        more = omega (arith, ap length all ∙ length-append (vec_items p.log.lines) more);
        capacity = grows;
      }
