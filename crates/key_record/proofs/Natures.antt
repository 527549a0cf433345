-- What each effect comes from: the call and the phase behind it. Assumes nothing.
use Rattle.std.proofs.Common.{◌≡◌, ℕ, ◌⊎◌, [], ◌∷◌, Some, sym, refl, subst, inl, inr, arith}
use Rattle.keypad.specs.declared.key.KeyEvent.{KeyEvent}
use Rattle.keypad.specs.Entries.{Entries}
use Rattle.key_record.specs.declared.call.Call.{Call}
use Rattle.key_record.specs.declared.call.Call.TheVariants.{Arm, Key, Expire, Claim, Book, Waive}
use Rattle.key_record.specs.declared.call.Numbers.{Numbers}
use Rattle.key_record.specs.declared.ending.Ending.{Ending}
use Rattle.key_record.specs.declared.ending.Method.{Method}
use Rattle.key_record.specs.declared.ending.Phase.TheVariants.{Idle, Open, Done, Claimed}
use Rattle.key_record.specs.declared.refusal.Refusal.{Refusal}
use Rattle.key_record.specs.declared.timer.Timer.{Timer}
use Rattle.key_record.specs.Keying.{Falls}
use Rattle.key_record.specs.Turns.{Outcome, Fed}
use Rattle.key_record.specs.States.{State, Running}
use Rattle.key_record.specs.Effects.{Effect, refuses, queues, begins, presses, claims, settles}
use Rattle.key_record.specs.Rules.{Allows, lapsed}

-- a booking or a waiving
abbrev pub Settlement : Call → Type 0
Settlement c = ((r : Numbers) × (c ≡ Waive r)) ⊎ ((r : Numbers) × (n : ℕ) × (c ≡ Book r n))

-- a key that is fed to what remains, or an expiry
abbrev pub Comes : State → Entries → Call → Outcome → Type 0
Comes st a c out = ((k : KeyEvent) × (c ≡ Key k) × Fed st.settings a [] [] (k ∷ []) out)
    ⊎ ((t : Timer) × (m : Method) × (c ≡ Expire t) × Falls a m × (out ≡ lapsed m t))

abbrev pub Nature : State → Entries → Entries → Call → Effect → Type 0
Nature st w a c (refuses why) = Unit {0}
Nature st w a c (queues k) = (c ≡ Key k) × (st.phase ≡ Open → ⊥)
Nature st w a c (begins s out) = (c ≡ Arm s) × (st.phase ≡ Idle) × Fed s w [] [] st.ahead out
Nature st w a c (presses out) = (st.phase ≡ Open) × Comes st a c out
Nature st w a c (claims e) = (c ≡ Claim) × (st.phase ≡ Done e)
Nature st w a c (settles l) = ((e : Ending) × (st.phase ≡ Claimed e)) × Settlement c

refused : (st : State) (w a : Entries) (c : Call) (why : Refusal) (f : Effect) → f ≡ refuses why
    → Nature st w a c f
refused st w a c why f e = subst (λ q. Nature st w a c q) (sym e) tt

-- a timer runs only while the line is open
pub ticks_open : (st : State) (a : Entries) (v : Timer × ℕ) → Running st a (Some v) → st.phase ≡ Open
ticks_open st a v (inl x) = x.0
ticks_open st a v (inr x) = absurd (let e = x.1 in let z : ◌≡◌ {A = ℕ} 0 1 = cc in omega arith)

pub nature : (st : State) (w a : Entries) (c : Call) (f : Effect) → Allows st w a c f → Nature st w a c f
nature st w a (Arm s) f (inr x) = refused st w a (Arm s) _ f x.1
nature st w a (Arm s) f (inl (idle, inr x)) = refused st w a (Arm s) _ f x.1
nature st w a (Arm s) f (inl (idle, inl (lawful, inr x))) = refused st w a (Arm s) _ f x.1
nature st w a (Arm s) f (inl (idle, inl (lawful, inl (few, (out, fed, e))))) =
    subst (λ q. Nature st w a (Arm s) q) (sym e) (refl, idle, fed)
nature st w a (Key k) f (inr x) = refused st w a (Key k) _ f x.1
nature st w a (Key k) f (inl (key, inl (opened, inr x))) = refused st w a (Key k) _ f x.1
nature st w a (Key k) f (inl (key, inl (opened, inl (fits, (out, fed, e))))) =
    subst (λ q. Nature st w a (Key k) q) (sym e) (opened, inl (k, refl, fed))
nature st w a (Key k) f (inl (key, inr (shut, inr x))) = refused st w a (Key k) _ f x.1
nature st w a (Key k) f (inl (key, inr (shut, inl (room, e)))) =
    subst (λ q. Nature st w a (Key k) q) (sym e) (refl, shut)
nature st w a (Expire t) f (inr x) = refused st w a (Expire t) _ f x.1
nature st w a (Expire t) f (inl (ticks, inr x)) = refused st w a (Expire t) _ f x.1
nature st w a (Expire t) f (inl (ticks, inl (named, (m, falls, e)))) =
    subst (λ q. Nature st w a (Expire t) q) (sym e)
    (ticks_open st a (t, named.0) named.1, inr (t, m, refl, falls, refl))
nature st w a Claim f (inr x) = refused st w a Claim _ f x.1
nature st w a Claim f (inl (done, e)) = subst (λ q. Nature st w a Claim q) (sym e) (refl, done.1)
nature st w a (Book r n) f (inr x) = refused st w a (Book r n) _ f x.1
nature st w a (Book r n) f (inl (presents, inr x)) = refused st w a (Book r n) _ f x.1
nature st w a (Book r n) f (inl (presents, inl (room, e))) =
    subst (λ q. Nature st w a (Book r n) q) (sym e) ((presents.0, presents.1), inr (r, n, refl))
nature st w a (Waive r) f (inr x) = refused st w a (Waive r) _ f x.1
nature st w a (Waive r) f (inl (presents, e)) =
    subst (λ q. Nature st w a (Waive r) q) (sym e) ((presents.0, presents.1), inl (r, refl))
