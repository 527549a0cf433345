-- What calls do moves to the same entries. Assumes nothing.
use Rattle.std.proofs.Common.{◌≡◌, ℕ, ◌⊎◌, List, [], ◌∷◌, ◌++◌, Some, None, refl, subst, inl, inr, Result}
use Rattle.keypad.specs.declared.key.KeyEvent.{KeyEvent}
use Rattle.keypad.specs.declared.key.Symbol.{Symbol}
use Rattle.keypad.specs.Entries.{Entries}
use Rattle.keypad.specs.Sets.{Same, After, Remains}
use Rattle.keypad.proofs.Sames.{flip, after_same, remains_same}
use Rattle.key_record.specs.declared.answer.Answer.{Answer}
use Rattle.key_record.specs.declared.answer.Reply.{Reply}
use Rattle.key_record.specs.declared.call.Call.{Call}
use Rattle.key_record.specs.declared.call.Call.TheVariants.{Arm, Key, Expire, Claim, Book, Waive}
use Rattle.key_record.specs.declared.ending.Method.{Method}
use Rattle.key_record.specs.declared.ending.Phase.TheVariants.{Open}
use Rattle.key_record.specs.declared.refusal.Refusal.{Refusal}
use Rattle.key_record.specs.declared.settings.Settings.{Settings}
use Rattle.key_record.specs.declared.timer.Timer.{Timer}
use Rattle.key_record.specs.Keying.{is_long}
use Rattle.key_record.specs.Turns.{Turned, pressed, closed, unmatched, Turns, ByTurn, Outcome, still, over, Fed}
use Rattle.key_record.specs.States.{State, Running}
use Rattle.key_record.specs.Effects.{Effect, refuses, queues, begins, presses, claims, settles, Progresses, Replies}
use Rattle.key_record.specs.Rules.{Fits, Allows}
use Rattle.key_record.specs.Record.{Kept, remaining, Steps, Runs}
use Rattle.key_record.proofs.Alike.{chosen_same, extra_same, judged_same, falls_same, missed_same, running_same}
use Rattle.key_record.proofs.Natures.{ticks_open}

pub turns_same : (s : Settings) (a b : Entries) → Same a b → (k : KeyEvent) (u : Turned) → Turns s a k u
    → Turns s b k u
turns_same s a b h k (pressed y) x = (
  chosen_same a b h (is_long s.timers k) k.key (Some y) x.0,
  judged_same (After a y) (After b y) (after_same a b y h) s.procedure None x.1,
)
turns_same s a b h k (closed y m) x = (
  chosen_same a b h (is_long s.timers k) k.key (Some y) x.0,
  judged_same (After a y) (After b y) (after_same a b y h) s.procedure (Some m) x.1,
)
turns_same s a b h k (unmatched y m) x = (
  chosen_same a b h (is_long s.timers k) k.key None x.0,
  extra_same a b h (is_long s.timers k) k.key y x.1,
  missed_same a b h s.procedure m x.2,
)

pub by_turn_map : {A X : Symbol → Type 0} {B C Y Z : Symbol → Method → Type 0} (u : Turned)
    → ((y : Symbol) → A y → X y) → ((y : Symbol) (m : Method) → B y m → Y y m)
    → ((y : Symbol) (m : Method) → C y m → Z y m) → ByTurn u A B C → ByTurn u X Y Z
by_turn_map (pressed y) f g h x = f y x
by_turn_map (closed y m) f g h x = g y m x
by_turn_map (unmatched y m) f g h x = h y m x

pub fed_same : (s : Settings) (a b : Entries) → Same a b → (p : List Symbol) (t ks : List KeyEvent)
    (out : Outcome) → Fed s a p t ks out → Fed s b p t ks out
fed_same s a b h p t [] out x = x
fed_same s a b h p t (k ∷ ks) out x = (
  x.0,
  turns_same s (Remains a p) (Remains b p) (remains_same a b p h) k x.0 x.1,
  by_turn_map x.0 (λ y. fed_same s a b h (p ++ y ∷ []) (t ++ k ∷ []) ks out) (λ y m e. e) (λ y m e. e)
      x.2,
)

-- a choice by a fact moves where the fact moves both ways
whether_same : {P Q Y : Type 0} {X : P → Type 0} {Z : Q → Type 0} → (P → Q) → (Q → P)
    → ((h : P) (k : Q) → X h → Z k) → ((h : P) × X h) ⊎ ((P → ⊥) × Y) → ((k : Q) × Z k) ⊎ ((Q → ⊥) × Y)
whether_same p q f (inl x) = inl (p x.0, f x.0 (p x.0) x.1)
whether_same p q f (inr x) = inr (λ k. x.0 (q k), x.1)

-- and where the fact stays
whether_kept : {P Y : Type 0} {X Z : P → Type 0} → ((h : P) → X h → Z h) → ((h : P) × X h) ⊎ ((P → ⊥) × Y)
    → ((h : P) × Z h) ⊎ ((P → ⊥) × Y)
whether_kept f (inl x) = inl (x.0, f x.0 x.1)
whether_kept f (inr x) = inr x

fits_same : (st : State) (a b : Entries) → Same a b → (k : KeyEvent) → Fits st a k → Fits st b k
fits_same st a b h k x y c =
    x y (chosen_same b a (flip a b h) (is_long st.settings.timers k) k.key (Some y) c)

-- what a key or an arming is fed to
leads_same : (s : Settings) (a b : Entries) → Same a b → (ks : List KeyEvent) (g : Outcome → Effect)
    (f : Effect) → ((out : Outcome) × Fed s a [] [] ks out × (f ≡ g out))
    → (out : Outcome) × Fed s b [] [] ks out × (f ≡ g out)
leads_same s a b h ks g f x = (x.0, fed_same s a b h [] [] ks x.0 x.1, x.2)

-- the timer that runs, of those that g lists
ticks_same : {A : Type 0} (g : A → Timer × ℕ) (st : State) (a b : Entries) → (st.phase ≡ Open → Same a b)
    → ((z : A) × Running st a (Some (g z))) → (z : A) × Running st b (Some (g z))
ticks_same g st a b i x = (x.0, running_same st a b i (Some (g x.0)) x.1)

pub allows_same : (st : State) (w v a b : Entries) → Same w v → (st.phase ≡ Open → Same a b) → (c : Call)
    (f : Effect) → Allows st w a c f → Allows st v b c f
allows_same st w v a b h i (Arm s) f x =
    whether_kept (λ _. whether_kept (λ _. whether_kept (λ _. leads_same s w v h st.ahead (begins s) f))) x
allows_same st w v a b h i (Key k) f x = whether_kept (λ _. whether_kept (λ o.
    whether_same (fits_same st a b (i o) k) (fits_same st b a (flip a b (i o)) k)
    (λ _ _. leads_same st.settings a b (i o) (k ∷ []) presses f))) x
allows_same st w v a b h i (Expire t) f x =
    let j : st.phase ≡ Open → Same b a = λ o. flip a b (i o) in
    whether_same (ticks_same (λ z. z) st a b i) (ticks_same (λ z. z) st b a j) (λ r _.
    whether_same (ticks_same (λ n. (t, n)) st a b i) (ticks_same (λ n. (t, n)) st b a j)
    (λ _ _ y. (y.0, falls_same a b (i (ticks_open st a r.0 r.1)) y.0 y.1, y.2))) x
allows_same st w v a b h i Claim f x = x
allows_same st w v a b h i (Book r n) f x = x
allows_same st w v a b h i (Waive r) f x = x

progresses_same : (a b : Entries) (st : State) → (st.phase ≡ Open → Same a b) → (out : Outcome) (x : Result Answer Refusal)
    → Progresses a st out x → Progresses b st out x
progresses_same a b st h (still p t) x y = (y.0, running_same st a b h y.0 y.1, y.2)
progresses_same a b st h (over o) x y = y

pub replies_same : (a b : Entries) (st : State) → (st.phase ≡ Open → Same a b) → (f : Effect) (x : Result Answer Refusal)
    → Replies a st f x → Replies b st f x
replies_same a b st h (refuses why) x y = y
replies_same a b st h (queues k) x y = y
replies_same a b st h (begins s out) x y = progresses_same a b st h out x y
replies_same a b st h (presses out) x y = progresses_same a b st h out x y
replies_same a b st h (claims e) x y = y
replies_same a b st h (settles None) x y = y
replies_same a b st h (settles (Some l)) x y = y

pub steps_same : (w v : Entries) → Same w v → (r : Kept) (c : Call) (x : Reply) (n : Kept) → Steps w r c x n
    → Steps v r c x n
steps_same w v h r c x n f =
    let i = remains_same w v r.state.dial h in
    let j = remains_same w v n.state.dial h in
    let e = f.effect in
    record {
      effect = e;
      allowed = allows_same r.state w v (remaining w r) (remaining v r) h (λ _. i) c e f.allowed;
      noted = f.noted;
      answered = replies_same (remaining w n) (remaining v n) n.state (λ _. j) e x.answer f.answered;
      running = running_same n.state (remaining w n) (remaining v n) (λ _. j) x.timer f.running;
    }

pub runs_same : (w v : Entries) → Same w v → (cs : List Call) (r : Kept) (xs : List Reply) (n : Kept)
    → Runs w r cs xs n → Runs v r cs xs n
runs_same w v h [] r [] n f = f
runs_same w v h [] r (x ∷ xs) n f = f
runs_same w v h (c ∷ cs) r [] n f = f
runs_same w v h (c ∷ cs) r (x ∷ xs) n f =
    (f.0, steps_same w v h r c x f.0 f.1, runs_same w v h cs f.0 xs n f.2)

-- one call more
pub runs_snoc : (w : Entries) (cs : List Call) (r m n : Kept) (xs : List Reply) (c : Call) (x : Reply)
    → Runs w r cs xs m → Steps w m c x n → Runs w r (cs ++ c ∷ []) (xs ++ x ∷ []) n
runs_snoc w [] r m n [] c x f g = (n, subst (λ q. Steps w q c x n) f g, refl)
runs_snoc w [] r m n (y ∷ xs) c x f g = absurd f
runs_snoc w (d ∷ cs) r m n [] c x f g = absurd f
runs_snoc w (d ∷ cs) r m n (y ∷ xs) c x f g = (f.0, f.1, runs_snoc w cs f.0 m n xs c x f.2 g)
