-- Over the same entries there is one record. Assumes nothing.
use Rattle.std.proofs.Common.{◌≡◌, ℕ, ◌⊎◌, List, [], ◌∷◌, Some, None, Option, refl, inl, inr, Result}
use Rattle.keypad.specs.declared.key.KeyEvent.{KeyEvent}
use Rattle.keypad.specs.declared.key.Symbol.{Symbol}
use Rattle.keypad.specs.Entries.{Entries}
use Rattle.keypad.specs.Sets.{Same}
use Rattle.key_record.specs.declared.answer.Answer.{Answer}
use Rattle.key_record.specs.declared.answer.Reply.{Reply}
use Rattle.key_record.specs.declared.call.Call.{Call}
use Rattle.key_record.specs.declared.call.Call.TheVariants.{Arm, Key, Expire, Claim, Book, Waive}
use Rattle.key_record.specs.declared.ending.Phase.TheVariants.{Open}
use Rattle.key_record.specs.declared.refusal.Refusal.{Refusal}
use Rattle.key_record.specs.declared.settings.Settings.{Settings}
use Rattle.key_record.specs.declared.timer.Timer.{Timer}
use Rattle.key_record.specs.Turns.{Turned, Turns, Outcome, still, over, Fed}
use Rattle.key_record.specs.States.{State, Running}
use Rattle.key_record.specs.Effects.{Effect, refuses, queues, begins, presses, claims, settles, Progresses, Replies}
use Rattle.key_record.specs.Rules.{Allows}
use Rattle.key_record.specs.Record.{Kept, remaining, Steps, Runs}
use Rattle.key_record.proofs.Singles.{falls_single, running_single}
use Rattle.key_record.proofs.Feeds.{turns_single, fed_single}
use Rattle.key_record.proofs.Moves.{turns_same, fed_same, allows_same, replies_same, steps_same, runs_same}

pub turns_unique : (a b : Entries) → Same a b → (s : Settings) (k : KeyEvent) (u v : Turned) → Turns s a k u
    → Turns s b k v → u ≡ v
turns_unique a b h s k u v f g = turns_single s b k u v (turns_same s a b h k u f) g

pub fed_unique : (w v : Entries) → Same w v → (s : Settings) (p : List Symbol) (t ks : List KeyEvent)
    (x y : Outcome) → Fed s w p t ks x → Fed s v p t ks y → x ≡ y
fed_unique w v h s p t ks x y f g = fed_single s v p t ks x y (fed_same s w v h p t ks x f) g

-- two choices by one fact have one result where each way has
pub whether_unique : {P Y Z R : Type 0} {X V : P → Type 0} → ((h k : P) → X h → V k → R) → (Y → Z → R)
    → ((h : P) × X h) ⊎ ((P → ⊥) × Y) → ((k : P) × V k) ⊎ ((P → ⊥) × Z) → R
whether_unique i j (inl x) (inl y) = i x.0 y.0 x.1 y.1
whether_unique i j (inl x) (inr y) = absurd (y.0 x.0)
whether_unique i j (inr x) (inl y) = absurd (x.0 y.0)
whether_unique i j (inr x) (inr y) = j x.1 y.1

-- a refusal for one reason is one
needs_unique : {P : Type 0} {X V : P → Type 0} {f g : Effect} {why : Refusal}
    → ((h k : P) → X h → V k → f ≡ g) → ((h : P) × X h) ⊎ ((P → ⊥) × (f ≡ refuses why))
    → ((k : P) × V k) ⊎ ((P → ⊥) × (g ≡ refuses why)) → f ≡ g
needs_unique i x y = whether_unique i (λ e d. cc) x y

-- what a key or an arming is fed to
leads_single : (s : Settings) (a : Entries) (ks : List KeyEvent) (e : Outcome → Effect) (f g : Effect)
    → ((out : Outcome) × Fed s a [] [] ks out × (f ≡ e out))
    → ((out : Outcome) × Fed s a [] [] ks out × (g ≡ e out)) → f ≡ g
leads_single s a ks e f g x y = let d = fed_single s a [] [] ks x.0 y.0 x.1 y.1 in cc

allows_single : (st : State) (w a : Entries) (c : Call) (f g : Effect) → Allows st w a c f → Allows st w a c g
    → f ≡ g
allows_single st w a (Arm s) f g x y = needs_unique
    (λ _ _. needs_unique (λ _ _. needs_unique (λ _ _. leads_single s w st.ahead (begins s) f g))) x y
allows_single st w a (Key k) f g x y = needs_unique (λ _ _. whether_unique
    (λ _ _. needs_unique (λ _ _. leads_single st.settings a (k ∷ []) presses f g))
    (needs_unique (λ _ _ i j. cc))) x y
allows_single st w a (Expire t) f g x y = needs_unique (λ _ _. needs_unique (λ _ _ i j.
    let e = falls_single a i.0 j.0 i.1 j.1 in cc)) x y
allows_single st w a Claim f g x y = needs_unique (λ h k i j. cc) x y
allows_single st w a (Book r n) f g x y = needs_unique (λ h k i j.
    let e : h.0 ≡ k.0 = cc in needs_unique (λ _ _ d b. cc) (rw e at i) j) x y
allows_single st w a (Waive r) f g x y = needs_unique (λ _ _ i j. cc) x y

pub allows_unique : (st : State) (w v a b : Entries) → Same w v → (st.phase ≡ Open → Same a b) → (c : Call)
    (f g : Effect) → Allows st w a c f → Allows st v b c g → f ≡ g
allows_unique st w v a b h i c f g x y = allows_single st v b c f g (allows_same st w v a b h i c f x) y

progresses_single : (a : Entries) (st : State) (out : Outcome) (x y : Result Answer Refusal) → Progresses a st out x
    → Progresses a st out y → x ≡ y
progresses_single a st (still p t) x y f g = let e = running_single st a f.0 g.0 f.1 g.1 in cc
progresses_single a st (over o) x y f g = cc

replies_single : (a : Entries) (st : State) (f : Effect) (x y : Result Answer Refusal) → Replies a st f x → Replies a st f y
    → x ≡ y
replies_single a st (refuses why) x y i j = cc
replies_single a st (queues k) x y i j = cc
replies_single a st (begins s out) x y i j = progresses_single a st out x y i j
replies_single a st (presses out) x y i j = progresses_single a st out x y i j
replies_single a st (claims e) x y i j = cc
replies_single a st (settles None) x y i j = cc
replies_single a st (settles (Some l)) x y i j = cc

pub replies_unique : (a b : Entries) (st : State) → (st.phase ≡ Open → Same a b) → (f : Effect)
    (x y : Result Answer Refusal) → Replies a st f x → Replies b st f y → x ≡ y
replies_unique a b st h f x y i j = replies_single b st f x y (replies_same a b st h f x i) j

reply_alike : (x y : Reply) → x.answer ≡ y.answer → x.timer ≡ y.timer → x ≡ y
reply_alike x y i j =
    let whole : Result Answer Refusal → Option (Timer × ℕ) → Reply = λ a t. record { answer = a; timer = t } in
    let e : whole x.answer x.timer ≡ whole y.answer y.timer = cc in
    e

steps_single : (w : Entries) (r : Kept) (c : Call) (x y : Reply) (m n : Kept) → Steps w r c x m
    → Steps w r c y n → (x ≡ y) × (m ≡ n)
steps_single w r c x y m n f g =
    let e = allows_single r.state w (remaining w r) c f.effect g.effect f.allowed g.allowed in
    let d : m ≡ n = cc in
    let told : Replies (remaining w n) n.state g.effect x.answer = rw (d, e) at f.answered in
    let runs : Running n.state (remaining w n) x.timer = rw d at f.running in (
      reply_alike x y
          (replies_single (remaining w n) n.state g.effect x.answer y.answer told g.answered)
          (running_single n.state (remaining w n) x.timer y.timer runs g.running),
      d,
    )

pub steps_unique : (w v : Entries) → Same w v → (r : Kept) (c : Call) (x y : Reply) (m n : Kept)
    → Steps w r c x m → Steps v r c y n → (x ≡ y) × (m ≡ n)
steps_unique w v h r c x y m n f g = steps_single v r c x y m n (steps_same w v h r c x m f) g

runs_single : (w : Entries) (cs : List Call) (r : Kept) (xs ys : List Reply) (m n : Kept) → Runs w r cs xs m
    → Runs w r cs ys n → (xs ≡ ys) × (m ≡ n)
runs_single w [] r [] [] m n f g = (refl, cc)
runs_single w [] r [] (y ∷ ys) m n f g = absurd g
runs_single w [] r (x ∷ xs) ys m n f g = absurd f
runs_single w (c ∷ cs) r [] ys m n f g = absurd f
runs_single w (c ∷ cs) r (x ∷ xs) [] m n f g = absurd g
runs_single w (c ∷ cs) r (x ∷ xs) (y ∷ ys) m n f g =
    let e = steps_single w r c x y f.0 g.0 f.1 g.1 in
    let d = runs_single w cs g.0 xs ys m n (rw e.1 at f.2) g.2 in
    (cc, d.1)

-- the same calls have the same replies, and leave the same record
pub runs_unique : (w v : Entries) → Same w v → (cs : List Call) (r : Kept) (xs ys : List Reply) (m n : Kept)
    → Runs w r cs xs m → Runs v r cs ys n → (xs ≡ ys) × (m ≡ n)
runs_unique w v h cs r xs ys m n f g = runs_single v cs r xs ys m n (runs_same w v h cs r xs m f) g
