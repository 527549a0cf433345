-- What a set of entries behind a code tells. Assumes nothing.
use Rattle.std.specs.Prelude.{◌≡◌, ℕ, ◌+◌, ◌<◌, ◌≤◌, Bool, true, false, ◌⊎◌, List, [], ◌∷◌, length, take, drop, ◌≢◌, slice_index, refl}
use Rattle.std.proofs.Common.{sym, ◌∙◌, ap, subst, inl, inr, ⊎_elim, arith, get_or-take, length-take-le}
use Rattle.std.proofs.Math.Logic.{∥∥₁_map}
use Rattle.std.proofs.lemmas.List.{drop_more, drop_all}
use Rattle.keypad.specs.declared.key.Symbol.{Symbol}
use Rattle.keypad.specs.declared.key.Symbol.TheVariants.{Plain}
use Rattle.keypad.specs.declared.key.Mark.{Mark}
use Rattle.keypad.specs.declared.key.Mark.TheVariants.{Unmarked, Short, Long}
use Rattle.keypad.specs.Entries.{Step, Entry, Entries, step, prepend, ended}
use Rattle.keypad.specs.Sets.{Same, Starts, Ended, Settled, GoesOn, Under}
use Rattle.keypad.specs.Answers.{Tells, Pressed, Timing}
use Rattle.keypad.specs.Sets.{Empty}
use Rattle.plans.specs.Fronts.{no_steps}
use Rattle.plans.specs.Keyed.{behind}
use Rattle.plans.specs.Questions.{Question, tells_same}
use Rattle.plans.specs.Coded.{Behind, Any, Sized, Keys, Coded, Takes}

abbrev tail : List Step → List Step
tail [] = []
tail (s ∷ ss) = ss

abbrev head : Step → List Step → Step
head d [] = d
head d (s ∷ ss) = s

-- two entries with a step in front are equal: so are the steps, and so is what is behind them
same_step : (s t : Step) (e f : Entry) → prepend s e ≡ prepend t f → s ≡ t
same_step s t e f p = ap (λ (x : Entry). head s x.steps) p

same_behind : (s t : Step) (e f : Entry) → prepend s e ≡ prepend t f → e ≡ f
same_behind s t e f p =
    ap (λ (x : Entry). record { steps = tail x.steps; closing = x.closing; held = x.held }) p

-- each entry has ended or goes on
split : (a : Entries) (ss : List Step) (m : Mark) (h : Bool)
    → a (record { steps = ss; closing = m; held = h }) → Ended a ⊎ GoesOn a
split a [] m h x = inl (m, h, x)
split a (s ∷ ss) m h x = inr (s, record { steps = ss; closing = m; held = h }, x)

-- some entry has ended, so that there is one
pub any_ended : (a : Entries) (r : Bool) → r ≡ true → Tells (Ended a) r → Tells (Any a) r
any_ended a r e t =
    subst (Tells (Any a)) (sym e) (∥∥₁_map (subst (Tells (Ended a)) e t) (λ x. (ended x.0 x.1, x.2)))

-- none has ended, so that there is an entry if one goes on
pub any_goes : (a : Entries) (r : Bool) → (Ended a → ⊥) → Tells (GoesOn a) r → Tells (Any a) r
any_goes a true n t = ∥∥₁_map t (λ x. (prepend x.0 x.1, x.2))
any_goes a false n t = λ x. ⊎_elim n t (split a x.0.steps x.0.closing x.0.held x.1)

-- behind the same keys
pub behind_same : (ks : List ℕ) (a b : Entries) → Same a b → Same (Behind ks a) (Behind ks b)
behind_same ks a b s e = (λ x. (x.0, (s x.0).0 x.1, x.2), λ x. (x.0, (s x.0).1 x.1, x.2))

-- behind no keys
pub behind_none : (a : Entries) → Same (Behind [] a) a
behind_none a e = (λ x. subst a (sym x.2) x.1, λ x. (e, x, refl))

-- once the code is keyed, the part's own entries are left
pub spent : (ks : List ℕ) (a : Entries) → ks ≡ [] → Same a (Behind ks a)
spent ks a e = subst (λ l. Same a (Behind l a)) (sym e) (λ x. ((behind_none a x).1, (behind_none a x).0))

pub tells_behind : (F : Entries → Type 0) (q : Question F) (ks : List ℕ) (a : Entries) (r : Bool) → ks ≡ []
    → Tells (F a) r → Tells (F (Behind ks a)) r
tells_behind F q ks a r e t = tells_same F q a (Behind ks a) r (spent ks a e) t

pub behind_barren : (ks : List ℕ) (a : Entries) → Empty a → Empty (Behind ks a)
behind_barren ks a n e x = n x.0 x.1

pub behind_fertile : (ks : List ℕ) (a : Entries) → Empty (Behind ks a) → Empty a
behind_fertile ks a n e x = n (behind ks e) (e, x, refl)

-- an entry behind keys has steps if it has without them
pub behind_stepped : (ks : List ℕ) (a : Entries) → ((x : Entry) → a x → x.steps ≢ [])
    → (e : Entry) → Behind ks a e → e.steps ≢ []
behind_stepped [] a h e x p = h x.0 x.1 (sym (ap (λ (y : Entry). y.steps) x.2) ∙ p)
behind_stepped (k ∷ ks) a h e x p = no_steps _ _ (sym p ∙ ap (λ (y : Entry). y.steps) x.2)

module _ (k : ℕ) (ks : List ℕ) (a : Entries) where
  -- only the next key of the code opens it, and only with something behind it
  pub starts_behind : (s : Symbol) (r : Bool) → Takes s k a r → Tells (Starts (Behind (k ∷ ks) a) s) r
  starts_behind s true t =
      ∥∥₁_map t.1
      (λ x. (
        Unmarked,
        behind ks x.0,
        (
          x.0,
          x.1,
          ap (λ u. prepend (step u Unmarked) (behind ks x.0))
              t.0,
        ),
      ))
  starts_behind s false t =
      λ x. t (ap (λ (u : Step). u.symbol) (same_step _ _ _ _ x.2.2)) (x.2.0, x.2.1)

  -- the key pressed leaves the other keys
  pub pressed_behind : (s : Symbol) (r : Bool) → r ≡ true → Takes s k a r
      → Pressed (Behind (k ∷ ks) a) s r (Behind ks a)
  pressed_behind s true e t = (
    starts_behind s true t,
    λ y. (
      λ x. (Unmarked, (x.0, x.1, λ i. prepend (step (t.0 i) Unmarked) (x.2 i))),
      λ x. (x.1.0, x.1.1, same_behind _ _ _ _ x.1.2),
    ),
  )
  pressed_behind s false e t = absurd (let z : ◌≡◌ {A = ℕ} 0 1 = cc in omega arith)

  -- a key that is not taken leaves all keys of the code
  pub refused_behind : (s : Symbol) (r : Bool) → r ≡ false → Takes s k a r
      → Pressed (Behind (k ∷ ks) a) s r (Behind (k ∷ ks) a)
  refused_behind s false e t = (starts_behind s false t, λ y. (λ x. x, λ x. x))
  refused_behind s true e t = absurd (let z : ◌≡◌ {A = ℕ} 0 1 = cc in omega arith)

  -- no entry has ended within the code
  pub ended_behind : Ended (Behind (k ∷ ks) a) → ⊥
  ended_behind x = no_steps _ _ (ap (λ (y : Entry). y.steps) x.2.2)

  -- nor has one settled there
  pub settled_behind : Settled (Behind (k ∷ ks) a) → ⊥
  settled_behind x = no_steps _ _ (ap (λ (y : Entry). y.steps) x.1.2)

  -- each goes on
  pub goes_behind : (r : Bool) → Tells (Any a) r → Tells (GoesOn (Behind (k ∷ ks) a)) r
  goes_behind true t = ∥∥₁_map t (λ x. (step (Plain k) Unmarked, behind ks x.0, (x.0, x.1, refl)))
  goes_behind false t = λ x. t (x.2.0, x.2.1)

  -- no entry waits under a mark there
  under_behind : (m : Mark) → (m ≢ Unmarked) → Under (Behind (k ∷ ks) a) m → ⊥
  under_behind m n =
      ⊎_elim (λ x. n (ap (λ (u : Step). u.mark) (same_step _ _ _ _ x.2.2)))
      (λ x. no_steps _ _ (ap (λ (y : Entry). y.steps) x.1.2))

  -- so the timing within the code is unmarked
  pub timing_behind : Timing (Behind (k ∷ ks) a) Unmarked
  timing_behind = (
    under_behind Long (λ e. let z : ◌≡◌ {A = ℕ} 0 1 = cc in omega arith),
    under_behind Short (λ e. let z : ◌≡◌ {A = ℕ} 0 1 = cc in omega arith),
  )

-- the key that comes next, and the keys behind it
pub next_key : (ks : List ℕ) (n i : ℕ) → n ≤ length ks → i < n
    → drop i (take n ks) ≡ slice_index ks i ∷ drop (i + 1) (take n ks)
next_key ks n i h l =
    drop_more (take n ks) i 0 (omega (arith, length-take-le n ks h))
    ∙ ap (λ k. k ∷ drop (i + 1) (take n ks)) (get_or-take n ks i 0 l)

-- once all n keys are keyed, no key is left
pub no_key : (ks : List ℕ) (n i : ℕ) → n ≤ length ks → n ≤ i → drop i (take n ks) ≡ []
no_key ks n i h l = drop_all i (take n ks) (omega (arith, length-take-le n ks h))

-- a code over a part that was rewound
pub made : (ks ms : List ℕ) (a w r : Entries) → Sized ks → Keys ks → ms ≡ ks → Same w a → Same r a
    → Coded ks a (Behind ms w) (Behind ms r)
made ks ms a w r z k e p q =
    record {
      sized = z;
      keys = k;
      whole = subst (λ l. Same (Behind ms w) (Behind l a)) e (behind_same ms w a p);
      rest = behind_same ms r w (λ x. (λ y. (p x).1 ((q x).0 y), λ y. (q x).1 ((p x).0 y)));
      barren = λ n. behind_barren ms w (λ x y. n x ((p x).0 y));
      fertile = λ n x y. behind_fertile ms w n x ((p x).1 y);
    }
