-- The tests behind the refusals of a call. Assumes nothing.
use Rattle.std.proofs.Common.{◌≡◌, ℕ, ◌<◌, ◌≤◌, Bool, true, false, ◌&&◌, eqb, ltb, leb, refl, arith}
use Rattle.std.proofs.lemmas.Bool.{leb-true, leb-false, ltb-true, ltb-false, eqb-true, eqb-false}
use Rattle.keypad.specs.declared.timers.Timers.{Timers}
use Rattle.key_record.specs.declared.ending.Phase.{Phase}
use Rattle.key_record.specs.declared.ending.Phase.TheVariants.{Idle, Open, Done, Claimed}
use Rattle.key_record.specs.declared.timer.Timer.{Timer}
use Rattle.key_record.specs.declared.timer.Timer.TheVariants as timer
use Rattle.key_record.specs.Bounds.{Lawful}
use Rattle.sale_cases.proofs.Facts.{Tests}

pub tested : {P : Type 0} (b : Bool) → (b ≡ true → P) → (b ≡ false → P → ⊥) → Tests P b
tested true f g = f refl
tested false f g = g refl

pub same_tested : {P Q : Type 0} (b : Bool) → (P → Q) → (Q → P) → Tests P b → Tests Q b
same_tested true f g h = f h
same_tested false f g h = λ q. h (g q)

pub and_tested : (P Q : Type 0) (b c : Bool) → Tests P b → Tests Q c → Tests (P × Q) (b && c)
and_tested P Q true true p q = (p, q)
and_tested P Q true false p q = λ x. q x.1
and_tested P Q false c p q = λ x. p x.0

pub le_tested : (a b : ℕ) → Tests (a ≤ b) (leb a b)
le_tested a b = tested (leb a b) (leb-true a b) (λ e l. let m = leb-false a b e in omega arith)

pub lt_tested : (a b : ℕ) → Tests (a < b) (ltb a b)
lt_tested a b = tested (ltb a b) (ltb-true a b) (λ e l. let m = ltb-false a b e in omega arith)

pub eq_tested : (a b : ℕ) → Tests (a ≡ b) (eqb a b)
eq_tested a b = tested (eqb a b) (eqb-true a b) (eqb-false a b)

-- a number of seconds or tenths is from 1 to 99
abbrev counts : ℕ → Bool
counts n = leb 1 n && leb n 99

abbrev Counts : ℕ → Type 0
Counts n = (1 ≤ n) × (n ≤ 99)

counts_tested : (n : ℕ) → Tests (Counts n) (counts n)
counts_tested n = and_tested (1 ≤ n) (n ≤ 99) (leb 1 n) (leb n 99) (le_tested 1 n) (le_tested n 99)

abbrev pub is_lawful : Timers → Bool
is_lawful t = leb t.start 99 && (counts t.short && (counts t.long && counts t.hold))

pub lawful_tested : (t : Timers) → Tests (Lawful t) (is_lawful t)
lawful_tested t = same_tested (is_lawful t)
    (λ x. record {
      start = x.0;
      short = x.1.0.0;
      short_most = x.1.0.1;
      long = x.1.1.0.0;
      long_most = x.1.1.0.1;
      hold = x.1.1.1.0;
      hold_most = x.1.1.1.1;
    })
    (λ x. (x.start, ((x.short, x.short_most), ((x.long, x.long_most), (x.hold, x.hold_most)))))
    (and_tested (t.start ≤ 99) (Counts t.short × (Counts t.long × Counts t.hold)) _ _
    (le_tested t.start 99)
    (and_tested (Counts t.short) (Counts t.long × Counts t.hold) _ _ (counts_tested t.short)
    (and_tested (Counts t.long) (Counts t.hold) _ _ (counts_tested t.long)
    (counts_tested t.hold))))

abbrev pub is_idle : Phase → Bool
is_idle Idle = true
is_idle Open = false
is_idle (Done e) = false
is_idle (Claimed e) = false

pub idle_tested : (p : Phase) → Tests (p ≡ Idle) (is_idle p)
idle_tested Idle = refl
idle_tested Open = λ e. let z : ◌≡◌ {A = ℕ} 0 1 = cc in omega arith
idle_tested (Done x) = λ e. let z : ◌≡◌ {A = ℕ} 0 1 = cc in omega arith
idle_tested (Claimed x) = λ e. let z : ◌≡◌ {A = ℕ} 0 1 = cc in omega arith

abbrev pub same_timer : Timer → Timer → Bool
same_timer timer.Start timer.Start = true
same_timer timer.Start timer.Short = false
same_timer timer.Start timer.Long = false
same_timer timer.Short timer.Start = false
same_timer timer.Short timer.Short = true
same_timer timer.Short timer.Long = false
same_timer timer.Long timer.Start = false
same_timer timer.Long timer.Short = false
same_timer timer.Long timer.Long = true

pub timer_tested : (t u : Timer) → Tests (t ≡ u) (same_timer t u)
timer_tested timer.Start timer.Start = refl
timer_tested timer.Start timer.Short = λ e. let z : ◌≡◌ {A = ℕ} 0 1 = cc in omega arith
timer_tested timer.Start timer.Long = λ e. let z : ◌≡◌ {A = ℕ} 0 1 = cc in omega arith
timer_tested timer.Short timer.Start = λ e. let z : ◌≡◌ {A = ℕ} 0 1 = cc in omega arith
timer_tested timer.Short timer.Short = refl
timer_tested timer.Short timer.Long = λ e. let z : ◌≡◌ {A = ℕ} 0 1 = cc in omega arith
timer_tested timer.Long timer.Start = λ e. let z : ◌≡◌ {A = ℕ} 0 1 = cc in omega arith
timer_tested timer.Long timer.Short = λ e. let z : ◌≡◌ {A = ℕ} 0 1 = cc in omega arith
timer_tested timer.Long timer.Long = refl
