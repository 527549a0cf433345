-- What each report of every run means, and which timer runs after it, told by the whole. Assumes nothing.
use Rattle.std.proofs.Common.{◌≡◌, ℕ, List, [], ◌∷◌, ◌++◌, Some, None, Option, sym, refl, subst, inl, inr, append_assoc, append-nil, arith}
use Rattle.keypad.specs.declared.key.KeyEvent.{KeyEvent}
use Rattle.keypad.specs.declared.key.Symbol.{Symbol}
use Rattle.keypad.specs.Entries.{Entries}
use Rattle.keypad.specs.Sets.{Remains}
use Rattle.keypad.proofs.Sames.{remains-++}
use Rattle.key_record.specs.declared.answer.Reply.{Reply}
use Rattle.key_record.specs.declared.call.Call.{Call}
use Rattle.key_record.specs.declared.call.Call.TheVariants.{Expire}
use Rattle.key_record.specs.declared.ending.Trigger.TheVariants.{Press}
use Rattle.key_record.specs.declared.settings.Settings.{Settings}
use Rattle.key_record.specs.declared.timer.Timer.{Timer}
use Rattle.key_record.specs.Turns.{Turned, pressed, closed, unmatched, Turns, Outcome, still, over, Fed}
use Rattle.key_record.specs.States.{State, armed, lands, Running}
use Rattle.key_record.specs.Effects.{Effect, refuses, queues, begins, presses, claims, settles}
use Rattle.key_record.specs.Rules.{Allows}
use Rattle.key_record.specs.Record.{Told, Kept, start, notes, note, told, remaining, Steps, Runs}
use Rattle.key_record.specs.Completion.{Earlier, Begun}
use Rattle.key_record.specs.Meaning.{Brought, AllMean, Meant}
use Rattle.key_record.specs.Ticking.{Ticking, latest}
use Rattle.key_record.proofs.Fronts.{begun_none}
use Rattle.key_record.proofs.Natures.{Comes, Nature, nature}
use Rattle.key_record.proofs.Phases.{idle_shut, done_shut, claimed_shut}
use Rattle.key_record.proofs.Ticks.{running_ticks, timer_ticks}
use Rattle.key_record.proofs.Turning.{falls_told, TurnMeans, turn_means}

-- an expiry that was not refused names the timer that runs
expiry_runs : (st : State) (w a : Entries) (t : Timer) (out : Outcome)
    → Allows st w a (Expire t) (presses out) → (n : ℕ) × Running st a (Some (t, n))
expiry_runs st w a t out (inr (never, e)) = absurd (let z : ◌≡◌ {A = ℕ} 0 1 = cc in omega arith)
expiry_runs st w a t out (inl (ticks, inr (never, e))) = absurd (let z : ◌≡◌ {A = ℕ} 0 1 = cc in omega arith)
expiry_runs st w a t out (inl (ticks, inl (named, x))) = named

module _ (s : Settings) (w : Entries) (d : List Symbol) where
  -- what an outcome means, d being the dial string before it
  abbrev OutcomeMeans : Outcome → Type 0
  OutcomeMeans (still p t) = Begun s.procedure w (d ++ p)
  OutcomeMeans (over o) = Earlier s.procedure w (d ++ o.pressed)
      × Brought s w (d ++ o.pressed) o.ending.method o.ending.trigger o.extra

  turned : (p : List Symbol) (k : KeyEvent) (u : Turned) → Begun s.procedure w (d ++ p)
      → Turns s (Remains (Remains w d) p) k u → TurnMeans s w (d ++ p) k u
  turned p k u h x =
      turn_means s w (d ++ p) k u h (subst (λ (q : Entries). Turns s q k u) (sym (remains-++ w d p)) x)

  fed_means : (p : List Symbol) (t ks : List KeyEvent) (out : Outcome) → Begun s.procedure w (d ++ p)
      → Fed s (Remains w d) p t ks out → OutcomeMeans out
  fed_means p t [] out h e = subst (λ q. OutcomeMeans q) (sym e) h
  fed_means p t (k ∷ ks) out h (pressed y, turns, f) =
      fed_means (p ++ y ∷ []) (t ++ k ∷ []) ks out
      (subst (λ q. Begun s.procedure w q) (append_assoc d p (y ∷ [])) (turned p k (pressed y) h turns)) f
  fed_means p t (k ∷ ks) out h (closed y m, turns, e) =
      subst (λ q. OutcomeMeans q) (sym e)
      (subst (λ q. Earlier s.procedure w q × Brought s w q m Press None) (append_assoc d p (y ∷ []))
      (turned p k (closed y m) h turns))
  fed_means p t (k ∷ ks) out h (unmatched y m, turns, e) =
      subst (λ q. OutcomeMeans q) (sym e) (turned p k (unmatched y m) h turns)

comes_means : (w : Entries) (st : State) (c : Call) (out : Outcome)
    → Begun st.settings.procedure w st.dial
    → Allows st w (Remains w st.dial) c (presses out) → Comes st (Remains w st.dial) c out
    → OutcomeMeans st.settings w st.dial out
comes_means w st c out h allowed (inl (k, called, fed)) =
    fed_means st.settings w st.dial [] [] (k ∷ []) out (rw append-nil h) fed
comes_means w st c out h allowed (inr (t, m, called, falls, e)) =
    let a = Remains w st.dial in
    let runs = expiry_runs st w a t out (subst (λ q. Allows st w a q (presses out)) called allowed) in
    let ticks = timer_ticks w st (t, runs.0) runs.1 in
    subst (λ q. OutcomeMeans st.settings w st.dial q) (sym e)
    (rw append-nil (h.0, (falls_told w st.dial m falls, h.1, refl, (runs.0, ticks))))

all_mean-++ : (w : Entries) (ts us : List Told) → AllMean w ts → AllMean w us → AllMean w (ts ++ us)
all_mean-++ w [] us f g = g
all_mean-++ w (t ∷ ts) us f g = (f.0, all_mean-++ w ts us f.1 g)

module _ (w : Entries) (r : Kept) (h : Meant w r) where
  landed : (st : State) (out : Outcome) → OutcomeMeans st.settings w st.dial out
      → Meant w (notes r (lands st out) out)
  landed st (still p t) x = (h.0, λ _. x)
  landed st (over o) x = (
    all_mean-++ w r.reports (told r (lands st (over o)) o ∷ []) h.0 (x, tt),
    λ e. absurd (done_shut _ _ refl e),
  )

  noted : (c : Call) (f : Effect) → Allows r.state w (remaining w r) c f
      → Nature r.state w (remaining w r) c f → Meant w (note r f)
  noted c (refuses why) allowed x = h
  noted c (queues k) allowed x = h
  noted c (begins s out) allowed (called, idle, fed) =
      landed (armed r.state s) out
      (fed_means s w [] [] [] r.state.ahead out (begun_none s.procedure w) fed)
  noted c (presses out) allowed (opened, comes) =
      landed r.state out (comes_means w r.state c out (h.1 opened) allowed comes)
  noted c (claims e) allowed x = (h.0, λ opened. absurd (claimed_shut _ e refl opened))
  noted c (settles None) allowed x = (h.0, λ opened. absurd (idle_shut _ refl opened))
  noted c (settles (Some l)) allowed x = (h.0, λ opened. absurd (idle_shut _ refl opened))

  steps_mean : (c : Call) (x : Reply) (n : Kept) → Steps w r c x n → Meant w n
  steps_mean c x n s =
      rw s.noted
      (noted c s.effect s.allowed (nature r.state w (remaining w r) c s.effect s.allowed))

-- every reply names the timer that runs
pub steps_tick : (w : Entries) (r : Kept) (c : Call) (x : Reply) (n : Kept) → Steps w r c x n
    → Ticking w n.state x.timer
steps_tick w r c x n s = running_ticks w n.state x.timer s.running

module _ (w : Entries) (P : Kept → Option (Timer × ℕ) → Type 0)
    (one : (r : Kept) (v : Option (Timer × ℕ)) (c : Call) (x : Reply) (n : Kept) → P r v → Steps w r c x n
    → P n x.timer) where
  -- what each call keeps, of the record and the timer that the last reply named, a run keeps
  runs_keep : (r : Kept) (v : Option (Timer × ℕ)) (cs : List Call) (xs : List Reply) (n : Kept) → P r v
      → Runs w r cs xs n → P n (latest v xs)
  runs_keep r v [] [] n h e = rw e h
  runs_keep r v [] (x ∷ xs) n h f = absurd f
  runs_keep r v (c ∷ cs) [] n h f = absurd f
  runs_keep r v (c ∷ cs) (x ∷ xs) n h (m, s, f) = runs_keep m x.timer cs xs n (one r v c x m h s) f

module _ (w : Entries) (number : ℕ) (cs : List Call) (xs : List Reply) (n : Kept) where
  pub runs_mean : Runs w (start number) cs xs n → Meant w n
  runs_mean f =
      runs_keep w (λ r v. Meant w r) (λ r v c x n h s. steps_mean w r h c x n s)
      (start number) None cs xs n (tt, λ opened. absurd (idle_shut _ refl opened)) f

  pub runs_tick : Runs w (start number) cs xs n → Ticking w n.state (latest None xs)
  runs_tick f =
      runs_keep w (λ r v. Ticking w r.state v) (λ r v c x n h s. steps_tick w r c x n s)
      (start number) None cs xs n (inr (λ opened. idle_shut _ refl opened, refl)) f
