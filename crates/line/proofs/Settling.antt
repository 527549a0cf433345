-- Claiming, booking and waiving a report. Assumes nothing.
use Rattle.std.proofs.Common.{◌≡◌, ℕ, ◌≤◌, true, false, List, ◌++◌, length, drop, is_some, Some, None, Ok, Err, Option, refl, ap, ◌∙◌, subst, inl, inr, arith, Result}
use Rattle.keypad.specs.Entries.{Entries}
use Rattle.keypad.specs.Sets.{Same}
use Rattle.keypad.proofs.Sames.{same_refl}
use Rattle.key_record.specs.declared.answer.Answer.{Answer}
use Rattle.key_record.specs.declared.answer.Answer.TheVariants as answer
use Rattle.key_record.specs.declared.call.Call.{Call}
use Rattle.key_record.specs.declared.call.Call.TheVariants.{Claim, Book, Waive}
use Rattle.key_record.specs.declared.call.Numbers.{Numbers}
use Rattle.key_record.specs.declared.ending.Ending.{Ending}
use Rattle.key_record.specs.declared.ending.Phase.TheVariants.{Idle, Done, Claimed}
use Rattle.key_record.specs.declared.refusal.Refusal.TheVariants as refusal
use Rattle.key_record.specs.declared.refusal.Refusal.{Refusal}
use Rattle.key_record.specs.Effects.{claims, settles, Replies}
use Rattle.key_record.specs.Letters.{report_line}
use Rattle.key_record.specs.Rules.{Allows, Presents}
use Rattle.key_record.specs.States.{State, with_phase}
use Rattle.line_parts.specs.Dialled.{dialled}
use Rattle.line_parts.specs.Texts.{Laid}
use Rattle.line.specs.declared.line.Line.{Line}
use Rattle.line.specs.declared.receipt.Receipt.{Receipt}
use Rattle.line.specs.Does.{Does}
use Rattle.line.specs.Lines.{state_of}
use Rattle.line.specs.Settled.{Presented, Booked, Waived}
use Rattle.line.proofs.Refusing.{refusing}

-- the numbers claim no report where no ending was found, and one where it was
pub presents_none : (st : State) (n : Numbers) (o : Option Ending)
    → Presented st n o → is_some o ≡ false → Presents st n → ⊥
presents_none st n None h e = h
presents_none st n (Some x) h e = let z : ◌≡◌ {A = ℕ} 0 1 = cc in omega arith

pub presents_one : (st : State) (n : Numbers) (o : Option Ending)
    → Presented st n o → is_some o ≡ true → Presents st n
presents_one st n None h e = absurd (let z : ◌≡◌ {A = ℕ} 0 1 = cc in omega arith)
presents_one st n (Some x) h e = (x, h.0, h.1, h.2)

module _ {X : Type 0} (whole rest : X → Entries) (l m : Line X) (kept : m.plan ≡ l.plan) where
  plan_same : (part : X → Entries) → Same (part m.plan) (part l.plan)
  plan_same part = rw kept (same_refl (part l.plan))

  -- the report of a line that is done is claimed
  pub claiming : (e : Ending) (r : Receipt) → l.phase ≡ Done e
      → r.numbers ≡ record { number = m.number; count = m.count }
      → state_of m ≡ with_phase (state_of l) (Claimed e)
      → Does whole rest l Claim (Ok (answer.Claimed r.numbers)) m
  claiming e r done given state = record {
    effect = claims e;
    allowed = inl ((e, done), refl);
    state = state;
    answered = ap (λ u. Ok (answer.Claimed u)) given;
    same = plan_same whole;
    remains = plan_same rest;
    unmoved = λ why u. absurd (let z : ◌≡◌ {A = ℕ} 0 1 = cc in omega arith);
  }

  -- the receipt is taken, and the report line written or none
  abbrev settling : (c : Call) (line : Option (List ℕ)) (x : Result Answer Refusal)
      → Allows (state_of l) (whole l.plan) (rest l.plan) c (settles line)
      → state_of m ≡ with_phase (state_of l) Idle
      → Replies (rest m.plan) (state_of m) (settles line) x
      → Does whole rest l c x m
  settling c line x allowed state answered = record {
    effect = settles line;
    allowed = allowed;
    state = state;
    answered = answered;
    same = plan_same whole;
    remains = plan_same rest;
    unmoved = λ why u. absurd (let z : ◌≡◌ {A = ℕ} 0 1 = cc in omega arith);
  }

  module _ (r : Receipt) (n : Numbers) (shown : n ≡ r.numbers)
      (state : state_of m ≡ with_phase (state_of l) Idle) where
    pub waived : Presents (state_of l) n → Waived whole rest l r (Ok tt) m
    waived p = record {
      does = settling (Waive r.numbers) None (Ok answer.Waived)
          (inl (subst (Presents (state_of l)) shown p, refl)) state refl;
      back = tt;
    }

    pub booked : (e : Ending) (line before mem : List ℕ) (k : ℕ) → Presented (state_of l) n (Some e)
        → line ≡ report_line (dialled l.dial) e → Laid line before true mem → k ≡ length line
        → Booked whole rest l r before (Ok k) m mem
    booked e line before mem k p text laid long = record {
      does = settling (Book r.numbers (length before)) (Some (report_line (dialled l.dial) e))
          (Ok (answer.Booked k)) (inl (
            subst (Presents (state_of l)) shown (e, p.0, p.1, p.2),
            inl (subst (λ x. length x ≤ length before) text laid.0, refl),
          ))
          state (ap (λ u. Ok (answer.Booked u)) (long ∙ ap length text));
      memory = subst (λ x. mem ≡ x ++ drop (length x) before) text laid.1;
      back = tt;
    }

module _ {X : Type 0} (whole rest : X → Entries) (l : Line X) (r : Receipt) (n : Numbers)
    (shown : n ≡ r.numbers) where
  pub waive_refused : (Presents (state_of l) n → ⊥) → Waived whole rest l r (Err (refusal.Receipt, r)) l
  waive_refused h = record {
    does = refusing whole rest l (Waive r.numbers) refusal.Receipt
        (inr (subst (λ x. (Presents (state_of l) x → ⊥)) shown h, refl));
    back = refl;
  }

  pub book_refused : (before : List ℕ) → (Presents (state_of l) n → ⊥)
      → Booked whole rest l r before (Err (refusal.Receipt, r)) l before
  book_refused before h = record {
    does = refusing whole rest l (Book r.numbers (length before)) refusal.Receipt
        (inr (subst (λ x. (Presents (state_of l) x → ⊥)) shown h, refl));
    memory = refl;
    back = refl;
  }

  -- there is no room for the report line
  pub book_short : (e : Ending) (line before mem : List ℕ) → Presented (state_of l) n (Some e)
      → line ≡ report_line (dialled l.dial) e → Laid line before false mem
      → Booked whole rest l r before (Err (refusal.Memory, r)) l mem
  book_short e line before mem p text laid = record {
    does = refusing whole rest l (Book r.numbers (length before)) refusal.Memory
        (inl (
          subst (Presents (state_of l)) shown (e, p.0, p.1, p.2),
          inr (λ h. let z = ap length text in omega arith, refl),
        ));
    memory = laid.1;
    back = refl;
  }
