-- What remains of the entries of listed lots, and what a pressed digit leaves. Assumes nothing.
use Rattle.std.specs.Prelude.{◌≡◌, ℕ, suc, ◌+◌, ◌-◌, ◌*◌, ◌/◌, ◌%◌, ◌^◌, ◌<◌, ◌≤◌, Bool, true, false, List, [], length, ◌≢◌, slice_index, refl}
use Rattle.std.proofs.Common.{sym, ◌∙◌, ap, subst, ⊎_elim, mod-eq_of_lt, arith}
use Rattle.std.proofs.Math.Nat.{div-eq_of_lt}
use Rattle.std.proofs.ByRecursion.{has_get_or}
use Rattle.std.proofs.lemmas.Bool.{cases_lt}
use Rattle.keypad.specs.declared.key.Symbol.{Symbol}
use Rattle.keypad.specs.declared.key.Symbol.TheVariants as symbol
use Rattle.keypad.specs.declared.key.Mark.{Mark}
use Rattle.keypad.specs.declared.key.Mark.TheVariants.{Unmarked, Short, Long}
use Rattle.keypad.specs.Entries.{Step, Entry, Entries, step, ended, prepend}
use Rattle.keypad.specs.Sets.{Same, Starts, After, Ended, Settled, GoesOn, Under}
use Rattle.keypad.specs.Answers.{Pressed, Timing}
use Rattle.keypad.specs.Sets.{Empty}
use Rattle.plans.specs.Writings.{writing}
use Rattle.plans.specs.Lots.{numbered, Fitting, listed, listed_after, Begins}
use Rattle.plans.specs.Fronts.{no_steps, awaited, awaited_behind, never_long}
use Rattle.plans.specs.Fronts.{first_symbol, key, behind_first}
use Rattle.plans.specs.WritingsLemmas.{begun, begins_on, tail}

module _ (ns : List ℕ) (w : ℕ) where
  -- what remains where m digits are left
  abbrev Left : ℕ → ℕ → Entries
  Left m p e = (n : ℕ) × Fitting ns w n × (n / 10 ^ m ≡ p) × (e ≡ numbered m (n % 10 ^ m))

  -- some number begins so, where m digits are left
  abbrev Further : ℕ → ℕ → Type 0
  Further m p = (n : ℕ) × Fitting ns w n × (n / 10 ^ m ≡ p)

  -- the entry of the last k + 1 digits begins with the first of them
  entry_of : (n k d : ℕ) (e : Entry) → n % 10 ^ suc k / 10 ^ k ≡ d → e ≡ numbered k (n % 10 ^ k)
      → prepend (step (symbol.Plain d) Unmarked) e ≡ numbered (suc k) (n % 10 ^ suc k)
  entry_of n k d e digit is = let last = numbered k (n % 10 ^ suc k % 10 ^ k) in
      ap (λ (x : Entry). prepend (step (symbol.Plain d) Unmarked) x) (is ∙ ap (numbered k) (sym (tail n k)))
      ∙ ap (λ (x : ℕ). prepend (step (symbol.Plain x) Unmarked) last) (sym digit)

  left_after : (k p d : ℕ) → d < 10
      → (e : Entry) → Left k (p * 10 + d) e → After (Left (suc k) p) (symbol.Plain d) e
  left_after k p d small e (n, fits, q, is) =
      let b = begun n k p d small q in (Unmarked, (n, fits, b.0, entry_of n k d e b.1 is))

  after_left : (k p d : ℕ) (e : Entry)
      → After (Left (suc k) p) (symbol.Plain d) e → (d < 10) × Left k (p * 10 + d) e
  after_left k p d e (m, (n, fits, q, is)) =
      let digit : d ≡ n % 10 ^ suc k / 10 ^ k = ap (λ (x : Entry). key (first_symbol x.steps)) is in
      let b = begins_on n k p d q (sym digit) in
      (b.0, (n, fits, b.1, ap behind_first is ∙ ap (numbered k) (tail n k)))

  -- with no digit left there are no steps, with one or more there are some
  left_none : (p : ℕ) (s : Step) (e : Entry) → Left 0 p (prepend s e) → ⊥
  left_none p s e (n, fits, q, is) = no_steps _ _ (sym (ap (λ (x : Entry). x.steps) is))

  left_some : (k p : ℕ) (m : Mark) (h : Bool) → Left (suc k) p (ended m h) → ⊥
  left_some k p m h (n, fits, q, is) = no_steps _ _ (ap (λ (x : Entry). x.steps) is)

  left_on : (k p : ℕ) → Further (suc k) p → GoesOn (Left (suc k) p)
  left_on k p (n, fits, q) = let m = n % 10 ^ suc k in
      (step (symbol.Plain (m / 10 ^ k)) Unmarked, numbered k (m % 10 ^ k), (n, fits, q, refl))

  more_left : (t : ℕ) → t < w → w - t ≡ suc (w - (t + 1))
  more_left t more = omega arith

  none_left : (t : ℕ) → w ≤ t → w - t ≡ 0
  none_left t full = omega arith

  -- a pressed digit leaves what has it next
  pressed_after : (t p d : ℕ) → t < w → d < 10
      → Same (listed_after ns w (t + 1) (p * 10 + d)) (After (listed_after ns w t p) (symbol.Plain d))
  pressed_after t p d more small e = let At : ℕ → Type 0 = λ m. After (Left m p) (symbol.Plain d) e in (
    λ x. subst At (sym (more_left t more)) (left_after (w - (t + 1)) p d small e x),
    λ x. (after_left (w - (t + 1)) p d e (subst At (more_left t more) x)).1,
  )

  pub starts_sound : (t p d : ℕ) → Starts (listed_after ns w t p) (symbol.Plain d)
      → (t < w) × (d < 10) × Begins ns w (t + 1) (p * 10 + d)
  starts_sound t p d (m, e, x) =
      let At : ℕ → Type 0 = λ k. Left k p (prepend (step (symbol.Plain d) m) e) in
      ⊎_elim
      (λ more. let y = after_left (w - (t + 1)) p d e (m, subst At (more_left t more) x) in
      (more, y.0, (y.1.0, y.1.1, y.1.2)))
      (λ full. absurd (left_none p _ e (subst At (none_left t full) x)))
      (cases_lt t w)

  pub starts_complete : (t p d : ℕ) → (t < w) × (d < 10) × Begins ns w (t + 1) (p * 10 + d)
      → Starts (listed_after ns w t p) (symbol.Plain d)
  starts_complete t p d (more, small, (n, fits, q)) =
      let e = numbered (w - (t + 1)) (n % 10 ^ (w - (t + 1))) in
      let x = (pressed_after t p d more small e).0 (n, fits, q, refl) in (x.0, e, x.1)

  -- no entry that is left begins with a long key
  pub starts_long : (t p d : ℕ) → Starts (listed_after ns w t p) (symbol.Long d) → ⊥
  starts_long t p d (m, e, (n, fits, q, is)) = never_long (writing (w - t) (n % 10 ^ (w - t))) d m e is

  -- the digit of an open key is taken
  pub pressed_plain : (t p d k : ℕ) (s : Symbol) (r : Bool) → s ≡ symbol.Plain k → r ≡ true → d ≡ k
      → Starts (listed_after ns w t p) (symbol.Plain k)
      → Pressed (listed_after ns w t p) s r (listed_after ns w (t + 1) (p * 10 + d))
  pressed_plain t p d k s r is taken same starts = let sound = starts_sound t p k starts in
      let At : Symbol → Bool → Type 0
      = λ x b. Pressed (listed_after ns w t p) x b (listed_after ns w (t + 1) (p * 10 + d)) in
      subst (At s) (sym taken) (subst (λ (x : Symbol). At x true) (ap symbol.Plain same ∙ sym is) (
        ∣ subst (λ (x : ℕ). Starts (listed_after ns w t p) (symbol.Plain x)) (sym same) starts ∣₁,
        pressed_after t p d sound.0 (omega (arith, sound.1, same)),
      ))

  -- a long key is refused, and leaves the entries as they are
  pub pressed_long : (t p d : ℕ) (s : Symbol) → s ≡ symbol.Long d
      → Pressed (listed_after ns w t p) s false (listed_after ns w t p)
  pressed_long t p d s is = (
    subst (λ (x : Symbol). Starts (listed_after ns w t p) x → ⊥) (sym is) (starts_long t p d),
    λ e. (λ x. x, λ x. x),
  )

  pub ended_sound : (t p : ℕ) → t ≤ w → Ended (listed_after ns w t p) → (t ≡ w) × Begins ns w t p
  ended_sound t p within (m, h, x) = let At : ℕ → Type 0 = λ k. Left k p (ended m h) in
      ⊎_elim
      (λ more. absurd (left_some (w - (t + 1)) p m h (subst At (more_left t more) x)))
      (λ full. (omega arith, (x.0, x.1, x.2)))
      (cases_lt t w)

  pub settled_complete : (t p : ℕ) → (t ≡ w) × Begins ns w t p → Settled (listed_after ns w t p)
  settled_complete t p (whole, (n, fits, q)) = let none : w - t ≡ 0 = omega arith in
      (Unmarked, (n, fits, q, ap (λ (k : ℕ). numbered k (n % 10 ^ (w - t))) (sym none)))

  pub goes_on_sound : (t p : ℕ) → GoesOn (listed_after ns w t p) → (t < w) × Begins ns w t p
  goes_on_sound t p (s, e, x) = let At : ℕ → Type 0 = λ k. Left k p (prepend s e) in
      ⊎_elim
      (λ more. (more, (x.0, x.1, x.2)))
      (λ full. absurd (left_none p s e (subst At (none_left t full) x)))
      (cases_lt t w)

  pub goes_on_complete : (t p : ℕ) → (t < w) × Begins ns w t p → GoesOn (listed_after ns w t p)
  goes_on_complete t p (more, b) = let At : ℕ → Type 0 = λ k. Further k p → GoesOn (Left k p) in
      subst At (sym (more_left t more)) (left_on (w - (t + 1)) p) b

  -- whatever is awaited, it is under no mark
  under_left : (t p : ℕ) (m : Mark) → Under (listed_after ns w t p) m → m ≡ Unmarked
  under_left t p m = ⊎_elim
      (λ x. ap awaited x.2.3 ∙ awaited_behind (writing (w - t) (x.2.0 % 10 ^ (w - t))))
      (λ x. ap awaited x.1.3 ∙ awaited_behind (writing (w - t) (x.1.0 % 10 ^ (w - t))))

  pub timing_left : (t p : ℕ) → Timing (listed_after ns w t p) Unmarked
  timing_left t p = (
    λ x. (let q = under_left t p Long x in let z : ◌≡◌ {A = ℕ} 0 1 = cc in omega arith),
    λ x. (let q = under_left t p Short x in let z : ◌≡◌ {A = ℕ} 0 1 = cc in omega arith),
  )

  -- before any digit is pressed, all remain
  pub rewound_left : Same (listed_after ns w 0 0) (listed ns w)
  rewound_left e = let wide : w - 0 ≡ w = omega arith in
      let At : ℕ → Type 0 = λ m. Left m 0 e in (
        λ x. let (n, fits, q, is) = subst At wide x in
            (n, fits, is ∙ ap (numbered w) (mod-eq_of_lt fits.1)),
        λ (n, fits, is). subst At (sym wide)
            (n, fits, div-eq_of_lt fits.1, is ∙ ap (numbered w) (sym (mod-eq_of_lt fits.1))),
      )

  -- each entry has a step
  pub listed_steps : 1 ≤ w → (e : Entry) → listed ns w e → e.steps ≢ []
  listed_steps some e (n, fits, is) none = let long : w ≡ suc (w - 1) = omega arith in
      no_steps _ _
      (sym none ∙ ap (λ (x : Entry). x.steps) is ∙ ap (λ (k : ℕ). (numbered k n).steps) long)

  pub listed_barren : Empty (listed ns w) → (n : ℕ) → Fitting ns w n → ⊥
  listed_barren none n fits = none (numbered w n) (n, fits, refl)

  pub listed_empty : ((n : ℕ) → Fitting ns w n → ⊥) → Empty (listed ns w)
  listed_empty none e (n, fits, is) = none n fits

  -- a number of the list that fits and begins so does so at its place
  pub begins_at : (t p i : ℕ) → i < length ns → slice_index ns i < 10 ^ w
      → slice_index ns i / 10 ^ (w - t) ≡ p → Begins ns w t p
  begins_at t p i inside fits q = (slice_index ns i, (has_get_or ns i 0 inside, fits), q)

  -- where no place has a number that fits and begins so, none begins so
  pub begins_never : (t p : ℕ)
      → ((k : ℕ) → k < length ns → slice_index ns k < 10 ^ w → slice_index ns k / 10 ^ (w - t) ≢ p)
      → Begins ns w t p → ⊥
  begins_never t p missed (n, ((k, inside, at), fits), q) =
      missed k inside (subst (λ (x : ℕ). x < 10 ^ w) (sym (at 0)) fits)
      (ap (λ (x : ℕ). x / 10 ^ (w - t)) (at 0) ∙ q)
