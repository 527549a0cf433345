-- The effect of each call, by facts. Assumes nothing.
use Rattle.std.proofs.Common.{◌≡◌, ℕ, ◌+◌, ◌<◌, ◌≤◌, Bool, true, false, cond, ltb, leb, List, [], ◌∷◌, ◌++◌, length, Some, None, Option, sym, refl, ap, subst, inl, inr, arith}
use Rattle.keypad.specs.declared.key.KeyEvent.{KeyEvent}
use Rattle.keypad.specs.declared.key.Symbol.{Symbol}
use Rattle.keypad.specs.Entries.{Entries}
use Rattle.keypad.specs.Sets.{Remains}
use Rattle.key_record.specs.declared.ending.Phase.TheVariants.{Idle, Open}
use Rattle.key_record.specs.declared.refusal.Refusal.{Refusal}
use Rattle.key_record.specs.declared.refusal.Refusal.TheVariants as no
use Rattle.key_record.specs.declared.settings.Settings.{Settings}
use Rattle.key_record.specs.declared.timer.Timer.{Timer}
use Rattle.key_record.specs.Bounds.{Lawful}
use Rattle.key_record.specs.Dials.{width, chars}
use Rattle.key_record.specs.Keying.{is_long, Chosen}
use Rattle.key_record.specs.States.{State, Running}
use Rattle.key_record.specs.Effects.{Effect, refuses, queues, begins, presses}
use Rattle.key_record.specs.Rules.{Arming, Fits, Pressing, Queueing, Keying, lapsed, Expiring}
use Rattle.key_record.proofs.Singles.{chosen_single, running_single}
use Rattle.sale_cases.proofs.Facts.{Facts, Knows, Decides, decides_behind, Tests}
use Rattle.sale_cases.proofs.Choices.{choice, falling, chosen, falls}
use Rattle.sale_cases.proofs.Feeds.{feed, fed}
use Rattle.sale_cases.proofs.Waits.{is_open, open_tested, running, runs}
use Rattle.sale_cases.proofs.Tests.{same_tested, le_tested, lt_tested, is_lawful, lawful_tested}
use Rattle.sale_cases.proofs.Tests.{is_idle, idle_tested, same_timer, timer_tested}

-- the effect under a test, else the refusal
abbrev pub unless : Bool → Refusal → Effect → Effect
unless b why f = cond b f (refuses why)

abbrev pub arming : (List Symbol → Facts) → State → Settings → Effect
arming m st s = unless (is_idle st.phase) no.NotIdle (unless (is_lawful s.timers) no.Setting
    (unless (ltb st.count 999999) no.Reports (begins s (feed s m [] [] st.ahead))))

-- a symbol leaves at most 64 characters, n being there
abbrev pub roomy : ℕ → Option Symbol → Bool
roomy n None = true
roomy n (Some y) = leb (n + width y) 64

-- what the key is pressed as at an open line
abbrev pub press_of : Facts → State → KeyEvent → Option Symbol
press_of k st e = choice k (is_long st.settings.timers e) e.key

abbrev pub feeding : (List Symbol → Facts) → State → KeyEvent → Effect
feeding m st e = presses (feed st.settings (λ d. m (st.dial ++ d)) [] [] (e ∷ []))

abbrev pub pressing : (List Symbol → Facts) → State → KeyEvent → Effect
pressing m st e = unless (roomy (chars st.dial) (press_of (m st.dial) st e)) no.Dial (feeding m st e)

abbrev pub queueing : State → KeyEvent → Effect
queueing st e = unless (ltb (length st.ahead) 32) no.Ahead (queues e)

abbrev pub keying : (List Symbol → Facts) → State → KeyEvent → Effect
keying m st e = unless (leb e.key 15) no.Key (cond (is_open st.phase) (pressing m st e) (queueing st e))

abbrev pub expiry : Timer → Facts → Option (Timer × ℕ) → Effect
expiry t k None = refuses no.NoTimer
expiry t k (Some v) = unless (same_timer t v.0) no.OtherTimer (presses (lapsed (falling k) t))

abbrev pub expiring : (List Symbol → Facts) → State → Timer → Effect
expiring m st t = expiry t (m st.dial) (running st (m st.dial))

module _ (w : Entries) (m : List Symbol → Facts) (h : Decides w m) (st : State) where
  abbrev a : Entries
  a = Remains w st.dial

  abbrev k : Facts
  k = m st.dial

  known : Knows a k
  known = h st.dial

  -- by the tests behind its refusals
  armed_by : (s : Settings) (b c d : Bool) → Tests (st.phase ≡ Idle) b → Tests (Lawful s.timers) c →
      Tests (st.count < 999999) d → Arming st w s (unless b no.NotIdle (unless c no.Setting
      (unless d no.Reports (begins s (feed s m [] [] st.ahead)))))
  armed_by s true true true x y z = inl (x, inl (y, inl (z, (_, fed s w m h [] [] st.ahead, refl))))
  armed_by s true true false x y z = inl (x, inl (y, inr (z, refl)))
  armed_by s true false d x y z = inl (x, inr (y, refl))
  armed_by s false c d x y z = inr (x, refl)

  pub armed : (s : Settings) → Arming st w s (arming m st s)
  armed s = armed_by s (is_idle st.phase) (is_lawful s.timers) (ltb st.count 999999)
      (idle_tested st.phase) (lawful_tested s.timers) (lt_tested st.count 999999)

  roomy_tested : (b : Bool) (n j : ℕ) (o : Option Symbol) → Chosen a b j o →
      Tests ((y : Symbol) → Chosen a b j (Some y) → n + width y ≤ 64) (roomy n o)
  roomy_tested b n j None c = λ y x.
      let f = chosen_single a b j (Some y) None x c in let z : ◌≡◌ {A = ℕ} 0 1 = cc in absurd (omega arith)
  roomy_tested b n j (Some y) c =
      same_tested (leb (n + width y) 64)
      (λ l u x. let f = chosen_single a b j (Some y) (Some u) c x in let g : y ≡ u = cc in
      subst (λ v. n + width v ≤ 64) g l)
      (λ f. f y c) (le_tested (n + width y) 64)

  pressed_by : (e : KeyEvent) (b : Bool) → Tests (Fits st a e) b →
      Pressing st a e (unless b no.Dial (feeding m st e))
  pressed_by e true x =
      let f = fed st.settings a _ (decides_behind w m h st.dial) [] [] (e ∷ []) in inl (x, (_, f, refl))
  pressed_by e false x = inr (x, refl)

  queued_by : (e : KeyEvent) (b : Bool) → Tests (length st.ahead < 32) b →
      Queueing st e (unless b no.Ahead (queues e))
  queued_by e true x = inl (x, refl)
  queued_by e false x = inr (x, refl)

  pressed : (e : KeyEvent) → Pressing st a e (pressing m st e)
  pressed e =
      let b = is_long st.settings.timers e in
      pressed_by e _ (roomy_tested b (chars st.dial) e.key _ (chosen a k known b e.key))

  keyed_by : (e : KeyEvent) (b c : Bool) → Tests (e.key ≤ 15) b → Tests (st.phase ≡ Open) c →
      Keying st a e (unless b no.Key (cond c (pressing m st e) (queueing st e)))
  keyed_by e true true x y = inl (x, inl (y, pressed e))
  keyed_by e true false x y = inl (x, inr (y, queued_by e _ (lt_tested (length st.ahead) 32)))
  keyed_by e false c x y = inr (x, refl)

  pub keyed : (e : KeyEvent) → Keying st a e (keying m st e)
  keyed e = keyed_by e _ _ (le_tested e.key 15) (open_tested st.phase)

  -- the timer that runs has the name
  abbrev Named : Timer → Type 0
  Named t = (n : ℕ) × Running st a (Some (t, n))

  named_tested : (t u : Timer) (n : ℕ) → Running st a (Some (u, n)) → Tests (Named t) (same_timer t u)
  named_tested t u n r =
      same_tested (same_timer t u) (λ q. (n, subst (λ v. Running st a (Some (v, n))) (sym q) r))
      (λ x. let f = running_single st a (Some (t, x.0)) (Some (u, n)) x.1 r in
      let g : ◌≡◌ {A = Timer × ℕ} (t, x.0) (u, n) = cc in ap (λ (v : Timer × ℕ). v.0) g)
      (timer_tested t u)

  expired_by : (t : Timer) (v : Timer × ℕ) → Running st a (Some v) → (b : Bool) → Tests (Named t) b →
      Expiring st a t (unless b no.OtherTimer (presses (lapsed (falling k) t)))
  expired_by t v r true x = inl ((v, r), inl (x, (falling k, falls a k known, refl)))
  expired_by t v r false x = inl ((v, r), inr (x, refl))

  none_runs : Running st a None → (v : Timer × ℕ) × Running st a (Some v) → ⊥
  none_runs r x = let f = running_single st a None (Some x.0) r x.1 in
      let z : ◌≡◌ {A = ℕ} 0 1 = cc in omega arith

  expired_at : (t : Timer) (o : Option (Timer × ℕ)) → Running st a o → Expiring st a t (expiry t k o)
  expired_at t None r = inr (none_runs r, refl)
  expired_at t (Some v) r = expired_by t v r _ (named_tested t v.0 v.1 r)

  pub expired : (t : Timer) → Expiring st a t (expiring m st t)
  expired t = expired_at t _ (runs a k known st)
