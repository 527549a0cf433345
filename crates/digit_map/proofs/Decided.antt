-- The reader answers the fault that decides. Assumes nothing.
use Rattle.std.proofs.Common.{◌≡◌, ℕ, ◌+◌, cond, eqb, List, [], ◌∷◌, ◌++◌, sym, refl, ap, ◌∙◌, subst, inl, inr, append_assoc, arith}
use Rattle.digit_map.specs.declared.fault.Cause.{Cause}
use Rattle.digit_map.specs.declared.fault.Cause.TheVariants as cause
use Rattle.digit_map.specs.declared.fault.Fault.{Fault}
use Rattle.digit_map.specs.declared.token.Token.{Token}
use Rattle.digit_map.specs.Faults.{cause_number}
use Rattle.digit_map.specs.Offsets.{at_of, Ascends}
use Rattle.digit_map.specs.Limits.{sale}
use Rattle.digit_map.specs.Faults.{fault_in_lem}
use Rattle.digit_map.specs.Turns.{State, Turn, on, done, bad, start, turn, run, went}
use Rattle.digit_map.specs.Standing.{Standing}
use Rattle.digit_map.specs.Situations.{number_at}
use Rattle.digit_map.specs.Shows.{Faulty, field_misplaced, field_broken, set_broken}
use Rattle.digit_map.specs.Shows.{dot_misplaced, hold_misplaced, keyless, position_excess}
use Rattle.digit_map.specs.Shows.{alternative_excess, Shows, named, not_allowed, Before, Decides}
use Rattle.digit_map.proofs.Runs.{run_join}
use Rattle.digit_map.proofs.StandPass.{stands_pass}
use Rattle.digit_map.proofs.Leads.{Leads}
use Rattle.digit_map.proofs.Exact.{leads, at_start}
use Rattle.digit_map.proofs.Blames.{barred, Ruled, ruled}
use Rattle.digit_map.proofs.Blamed.{Blamed, shown}

-- what is read of a fault's number
of_number : ℕ → Cause
of_number n =
    cond (eqb n 1) cause.Length
    (cond (eqb n 2) cause.Head
    (cond (eqb n 3) cause.Byte
    (cond (eqb n 4) cause.Set
    (cond (eqb n 5) cause.Affix
    (cond (eqb n 6) cause.Keyless cause.Excess)))))

number_of : (c : Cause) → of_number (cause_number c) ≡ c
unfolding of_number
number_of cause.Length = refl
number_of cause.Head = refl
number_of cause.Byte = refl
number_of cause.Set = refl
number_of cause.Affix = refl
number_of cause.Keyless = refl
number_of cause.Excess = refl

same_cause : (c d : Cause) → cause_number c ≡ cause_number d → c ≡ d
same_cause c d e = sym (number_of c) ∙ (ap of_number e ∙ number_of d)

-- a fault that shows has the number of the alternative being read, unless it is the head's
shows_in : {p : List Token} {q : State} {x : Token} {f : Fault} → Shows p q x f →
    f ≡ fault_in_lem (number_at q.spot) f.cause f.offset
shows_in (named (field_misplaced i e out may)) = refl
shows_in (named (field_broken o e d b)) = refl
shows_in (named (set_broken o e d b)) = refl
shows_in (named (dot_misplaced e out may)) = refl
shows_in (named (hold_misplaced o w d m)) = refl
shows_in (named (keyless o e)) = refl
shows_in (named (position_excess e k b)) = refl
shows_in (named (alternative_excess e k b)) = refl
shows_in (not_allowed b n) = refl

before_both : (f g : Fault) → Before f g → Before g f →
    (cause_number f.cause ≡ cause_number g.cause) × (f.offset ≡ g.offset)
before_both f g (inl a) (inl b) = absurd (omega arith)
before_both f g (inl a) (inr b) = let e = b.0 in absurd (omega arith)
before_both f g (inr a) (inl b) = let e = a.0 in absurd (omega arith)
before_both f g (inr a) (inr b) = let h = a.1 in let k = b.1 in (a.0, omega arith)

same_fault : {p : List Token} {q : State} {x : Token} (f g : Fault) → Shows p q x f → Shows p q x g →
    Before f g → Before g f → f ≡ g
same_fault {q = q} f g s r a b =
    let e = before_both f g a b in
    shows_in s
    ∙ (ap (λ c. fault_in_lem (number_at q.spot) c f.offset) (same_cause f.cause g.cause e.0)
    ∙ (ap (fault_in_lem (number_at q.spot) g.cause) e.1 ∙ sym (shows_in r)))

module _ (n : ℕ) {p : List Token} {q : State} (s : Standing sale p q) (x : Token) (r : List Token)
    (asc : Ascends n (p ++ x ∷ r)) where
  -- what stops the reader is what shows
  stops_at : (f : Fault) → turn sale q x ≡ bad f → {g : Fault} → Faulty p q x g →
      (Before f g) × (cause_number f.cause ≡ 3 → ⊥)
  stops_at f e {g = g} y =
      let b : Blamed q x g = shown n r s x asc y in
      let d : b.found ≡ f = cc (b.is, e) in (
        subst (λ v. Before v g) d b.before,
        subst (λ (v : Fault). cause_number v.cause ≡ 3 → ⊥) d
            b.named,
      )

  shows_by : (f : Fault) → turn sale q x ≡ bad f → Ruled p x q (bad f) → Shows p q x f
  shows_by f e (inl y) = named y
  shows_by f e (inr h) =
      subst (Shows p q x) (sym h)
      (not_allowed (barred s e) (λ g y. (stops_at f e y).1 (ap (λ (v : Fault). cause_number v.cause) h)))

  pub shows_bad : (f : Fault) → turn sale q x ≡ bad f → Shows p q x f
  shows_bad f e = shows_by f e (subst (Ruled p x q) e (ruled s x))

  least_by : (f : Fault) → turn sale q x ≡ bad f → Ruled p x q (bad f) → (g : Fault) → Shows p q x g →
      Before f g
  least_by f e y g (named z) = (stops_at f e z).0
  least_by f e (inl y) g (not_allowed b none) = absurd (none f y)
  least_by f e (inr h) g (not_allowed b none) =
      inr (
        ap (λ (v : Fault). cause_number v.cause) h,
        let o = ap (λ (v : Fault). v.offset) h in
            omega arith,
      )

  pub least_bad : (f : Fault) → turn sale q x ≡ bad f → (g : Fault) → Shows p q x g → Before f g
  least_bad f e = least_by f e (subst (Ruled p x q) e (ruled s x))

  -- where the reader goes on or ends nothing shows
  silent : (y : Turn) → turn sale q x ≡ y → Leads sale p x y → (f : Fault) → Shows p q x f →
      (g : Fault) × (turn sale q x ≡ bad g)
  silent (on w) e l f (named z) = let b : Blamed q x f = shown n r s x asc z in (b.found, b.is)
  silent (on w) e l f (not_allowed b none) = absurd (b.no_place w l)
  silent (done t ns) e l f (named z) = let b : Blamed q x f = shown n r s x asc z in (b.found, b.is)
  silent (done t ns) e l f (not_allowed b none) = absurd (b.no_map t ns l)
  silent (bad g) e l f z = (g, e)

  pub shows_stop : (f : Fault) → Shows p q x f → (g : Fault) × (turn sale q x ≡ bad g)
  shows_stop f z = silent (turn sale q x) refl (leads sale s x) f z

-- before a place that is reached no token shows a fault
none_before : (n : ℕ) (p : List Token) (q : State) → Standing sale p q → Ascends n p →
    (a : List Token) (x : Token) (r : List Token) (w : State) (f : Fault) →
    p ≡ a ++ x ∷ r → Standing sale a w → Shows a w x f → ⊥
none_before n p q s asc a x r w f e h z =
    let g = shows_stop n h x r (subst (Ascends n) e asc) f z in
    let u : run sale start (a ++ x ∷ r) ≡ on q = ap (run sale start) (sym e)
    ∙ stands_pass sale s.text s.limits in
    let v : run sale start (a ++ x ∷ r) ≡ bad g.0 =
    run_join sale a (x ∷ r) start w (stands_pass sale h.text h.limits)
    ∙ ap (λ t. went sale t r) g.1 in
    let k : ◌≡◌ {A = ℕ} 0 1 = cc in omega arith

ascends_front : (n : ℕ) (p r : List Token) → Ascends n (p ++ r) → Ascends n p
ascends_front n [] r h = tt
ascends_front n (x ∷ p) r h = (h.0, ascends_front (at_of x + 1) p r h.1)

-- the token at which the reader stops
record Stop (ts : List Token) (f : Fault) : Type 0 where
  before : List Token
  here : Token
  after : List Token
  is : ts ≡ before ++ here ∷ after
  place : State
  stands : Standing sale before place
  stops : turn sale place here ≡ bad f

stop_by : (p : List Token) (x : Token) (ts : List Token) (q : State) (f : Fault) → Standing sale p q →
    ((w : State) → Standing sale (p ++ x ∷ []) w → run sale w ts ≡ bad f → Stop ((p ++ x ∷ []) ++ ts) f) →
    (y : Turn) → turn sale q x ≡ y → Leads sale p x y → went sale y ts ≡ bad f → Stop (p ++ x ∷ ts) f
stop_by p x ts q f s below (on w) d l e = subst (λ v. Stop v f) (append_assoc p (x ∷ []) ts) (below w l e)
stop_by p x ts q f s below (done t ns) d l e = let z : ◌≡◌ {A = ℕ} 0 1 = cc in absurd (omega arith)
stop_by p x ts q f s below (bad g) d l e =
    record { before = p; here = x; after = ts; is = refl; place = q; stands = s; stops = d ∙ e }

stop_at : (ts p : List Token) (q : State) (f : Fault) → Standing sale p q → run sale q ts ≡ bad f →
    Stop (p ++ ts) f
stop_at [] p q f s e = let z : ◌≡◌ {A = ℕ} 0 1 = cc in absurd (omega arith)
stop_at (x ∷ ts) p q f s e =
    stop_by p x ts q f s (λ w l. stop_at ts (p ++ x ∷ []) w f l) (turn sale q x) refl (leads sale s x) e

-- the fault that the reader answers decides
pub decided : (n : ℕ) (ts : List Token) (f : Fault) → Ascends n ts → run sale start ts ≡ bad f → Decides ts f
decided n ts f asc e =
    let s : Stop ts f = stop_at ts [] start f (at_start sale) e in
    let a : Ascends n (s.before ++ s.here ∷ s.after) = subst (Ascends n) s.is asc in
    record {
      before = s.before;
      here = s.here;
      after = s.after;
      is = s.is;
      place = s.place;
      stands = s.stands;
      shows = shows_bad n s.stands s.here s.after a f s.stops;
      least = least_bad n s.stands s.here s.after a f s.stops;
      first = λ p x r q g d h z.
          none_before n s.before s.place s.stands
          (ascends_front n s.before (s.here ∷ s.after) a) p x r q g d h z;
    }

-- the fault that decides is the reader's answer
pub answered : (n : ℕ) (ts : List Token) (f : Fault) → Ascends n ts → Decides ts f → run sale start ts ≡ bad f
answered n ts f asc d =
    let a : Ascends n (d.before ++ d.here ∷ d.after) = subst (Ascends n) d.is asc in
    let g = shows_stop n d.stands d.here d.after a f d.shows in
    let r = shows_bad n d.stands d.here d.after a g.0 g.1 in
    let e : f ≡ g.0 =
    same_fault f g.0 d.shows r (d.least g.0 r)
    (least_bad n d.stands d.here d.after a g.0 g.1 f d.shows) in
    ap (run sale start) d.is
    ∙ (run_join sale d.before (d.here ∷ d.after) start d.place
    (stands_pass sale d.stands.text d.stands.limits)
    ∙ (ap (λ t. went sale t d.after) g.1 ∙ ap bad (sym e)))
