-- Every accepted key is gone, taken or ahead, after every run. Assumes nothing.
use Rattle.std.proofs.Common.{◌≡◌, ℕ, List, [], ◌∷◌, ◌++◌, Some, None, Option, refl, append_assoc, append-nil}
use Rattle.keypad.specs.declared.key.KeyEvent.{KeyEvent}
use Rattle.keypad.specs.Entries.{Entries}
use Rattle.keypad.specs.Sets.{Remains}
use Rattle.key_record.specs.declared.answer.Reply.{Reply}
use Rattle.key_record.specs.declared.call.Call.{Call}
use Rattle.key_record.specs.declared.ending.Phase.TheVariants.{Open}
use Rattle.key_record.specs.declared.settings.Disposition.{Disposition}
use Rattle.key_record.specs.declared.settings.Disposition.TheVariants.{Keep, Drop}
use Rattle.key_record.specs.Turns.{Outcome, still, over}
use Rattle.key_record.specs.States.{State, armed, lands, kept_extra, dropped_extra}
use Rattle.key_record.specs.Effects.{Effect, refuses, queues, begins, presses, claims, settles, after}
use Rattle.key_record.specs.Record.{Kept, start, notes, note, told, remaining, Steps, Runs}
use Rattle.key_record.specs.Record.{with_state, with_line}
use Rattle.key_record.specs.Kinds.{key_of, unless_refused, accepted}
use Rattle.key_record.specs.Spelling.{Spells, Accounts}
use Rattle.key_record.proofs.Natures.{Nature, nature}
use Rattle.key_record.proofs.Phases.{idle_shut, done_shut, claimed_shut}
use Rattle.key_record.proofs.Accepting.{accepts, replies_accept, settlement_keyless}
use Rattle.key_record.proofs.Spelling.{spells-++, all_spent-++, all_spelled-++}
use Rattle.key_record.proofs.Feeding.{Feeds, fed_feeds, comes_feed}

-- an unmatched key is gone if it is dropped, else at the front of those ahead
extras : (g t u l : List KeyEvent) (d : Disposition) (x : Option KeyEvent)
    → (g ++ t) ++ (u ++ (kept_extra Keep x ++ l))
    ≡ (((g ++ (t ++ u)) ++ dropped_extra d x) ++ []) ++ (kept_extra d x ++ (l ++ []))
extras g t u l d None = simp (append-nil, append_assoc)
extras g t u l Keep (Some k) = simp (append-nil, append_assoc)
extras g t u l Drop (Some k) = simp (append-nil, append_assoc)

-- a written line moves no key
lined : (w : Entries) (r : Kept) (l : List KeyEvent) (x : Option (List ℕ)) → Accounts w r l
    → Accounts w (with_line r x) l
lined w r l None h = h
lined w r l (Some b) h = record {
  all = h.all;
  open_entry = h.open_entry;
  idle = h.idle;
  awake = h.awake;
  by_report = h.by_report;
  spelled = h.spelled;
}

module _ (w : Entries) (r : Kept) (l : List KeyEvent) (h : Accounts w r l) where
  -- the keys js brought the outcome to an entry at the state st
  landed : (st : State) (js : List KeyEvent) (out : Outcome) → st.ahead ≡ []
      → Spells st.settings.timers w r.taken st.dial
      → Feeds st.settings (Remains w st.dial) js out
      → Accounts w (notes r (lands st out) out) ((r.gone ++ r.taken) ++ js)
  landed st js (still p t) none before f = record {
    all = rw (f.all, none) (simp (append-nil, append_assoc));
    open_entry = λ _. spells-++ st.settings.timers w r.taken t st.dial p before f.spelled;
    idle = λ shut. absurd (shut refl);
    awake = λ _. none;
    by_report = h.by_report;
    spelled = h.spelled;
  }
  landed st js (over o) none before f = record {
    all = rw (f.all, none)
        (extras r.gone r.taken o.taken o.left st.settings.disposition o.extra);
    open_entry = λ e. absurd (done_shut _ _ refl e);
    idle = λ _. refl;
    awake = λ e. absurd (done_shut _ _ refl e);
    by_report = rw (all_spent-++, ← h.by_report) (simp (append-nil, append_assoc));
    spelled = all_spelled-++ w r.reports (told r (lands st (over o)) o ∷ []) h.spelled
        (spells-++ st.settings.timers w r.taken o.taken st.dial _ before f.spelled, tt);
  }

  -- the line was not open and is not open at the state st
  quiet : (st : State) (js : List KeyEvent) → (r.state.phase ≡ Open → ⊥) → (st.phase ≡ Open → ⊥)
      → js ≡ (r.gone ++ r.taken) ++ st.ahead → Accounts w (with_state r st) js
  quiet st js was is all = record {
    all = all;
    open_entry = λ e. absurd (is e);
    idle = λ _. h.idle was;
    awake = λ e. absurd (is e);
    by_report = h.by_report;
    spelled = h.spelled;
  }

  noted : (c : Call) (f : Effect) → Nature r.state w (remaining w r) c f
      → Accounts w (note r f) (l ++ accepts f (key_of c))
  noted c (refuses why) n = rw append-nil h
  noted c (queues k) (e, shut) =
      quiet (after r.state (queues k)) _ shut shut (rw (e, h.all) (simp append_assoc))
  noted c (begins s out) (e, idle, f) =
      rw (e, append-nil, h.all)
      (landed (armed r.state s) r.state.ahead out refl (rw (h.idle (idle_shut _ idle)) tt)
      (fed_feeds s w [] [] r.state.ahead out tt f))
  noted c (presses out) (opened, f) =
      let none_ahead : l ≡ r.gone ++ r.taken = rw (h.all, h.awake opened, append-nil) in rw none_ahead
      (landed r.state (key_of c) out (h.awake opened) (h.open_entry opened)
      (comes_feed r.state (remaining w r) c out f))
  noted c (claims e) (is, done) =
      quiet (after r.state (claims e)) _ (done_shut _ e done) (claimed_shut _ e refl)
      (rw (is, append-nil) h.all)
  noted c (settles x) ((e, claimed), s) =
      lined w (with_state r (after r.state (settles x))) _ x
      (quiet (after r.state (settles x)) _ (claimed_shut _ e claimed) (idle_shut _ refl)
      (rw (settlement_keyless c s, append-nil) h.all))

  pub steps_account : (c : Call) (x : Reply) (n : Kept) → Steps w r c x n
      → Accounts w n (l ++ unless_refused x.answer (key_of c))
  steps_account c x n s =
      rw (s.noted, replies_accept (remaining w n) n.state s.effect _ (key_of c) s.answered)
      (noted c s.effect (nature r.state w (remaining w r) c s.effect s.allowed))

-- a run that goes on from a record adds its accepted keys
pub runs_add : (w : Entries) (r : Kept) (l : List KeyEvent) (cs : List Call) (xs : List Reply) (n : Kept)
    → Accounts w r l → Runs w r cs xs n → Accounts w n (l ++ accepted cs xs)
runs_add w r l [] [] n h e = rw (e, append-nil) h
runs_add w r l [] (x ∷ xs) n h f = absurd f
runs_add w r l (c ∷ cs) [] n h f = absurd f
runs_add w r l (c ∷ cs) (x ∷ xs) n h (m, s, f) =
    rw (← append_assoc) (runs_add w m _ cs xs n (steps_account w r l h c x m s) f)

pub runs_account : (w : Entries) (number : ℕ) (cs : List Call) (xs : List Reply) (n : Kept)
    → Runs w (start number) cs xs n → Accounts w n (accepted cs xs)
runs_account w number cs xs n f = runs_add w (start number) [] cs xs n
    (record {
      all = refl;
      open_entry = λ e. absurd (idle_shut _ refl e);
      idle = λ _. refl;
      awake = λ _. refl;
      by_report = refl;
      spelled = tt;
    }) f
