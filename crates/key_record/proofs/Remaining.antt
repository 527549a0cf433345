-- What remains after a dial string tells what the dial string is to the whole. Assumes nothing.
use Rattle.std.proofs.Common.{◌≡◌, Bool, false, List, [], ◌∷◌, ◌++◌, sym, refl, ap, ◌∙◌, subst, inl, inr, append-nil}
use mathlib.Core.List.{cons-ne-nil}
use Rattle.std.proofs.lemmas.List.{map-append}
use Rattle.keypad.specs.declared.key.Mark.{Mark}
use Rattle.keypad.specs.declared.key.Symbol.{Symbol}
use Rattle.keypad.specs.Entries.{Step, Entry, Entries, step, ended, prepend}
use Rattle.keypad.specs.Sets.{After, Remains, Starts, Ended, Settled, GoesOn, Under}
use Rattle.keypad.proofs.Sames.{remains-++}
use Rattle.key_record.specs.Matching.{symbols_of, symbols, IsEntry, IsSettled}
use Rattle.key_record.specs.Matching.{BeginsEntry, GoesFurther, AwaitsUnder}

-- the entry with other steps, and with steps in front
abbrev with_steps : Entry → List Step → Entry
with_steps e ss = record { steps = ss; closing = e.closing; held = e.held }

abbrev led : List Step → Entry → Entry
led f e = with_steps e (f ++ e.steps)

-- with steps of these symbols in front, whatever their marks, it is an entry of the whole
abbrev Led : Entries → List Symbol → Entry → Type 0
Led w d e = (f : List Step) × (symbols_of f ≡ d) × w (led f e)

remains_led : (w : Entries) (d : List Symbol) (e : Entry) → Remains w d e → Led w d e
remains_led w [] e x = ([], refl, x)
remains_led w (y ∷ d) e x =
    let l = remains_led (After w y) d e x in
    (step y l.2.0 ∷ l.0, ap (λ q. y ∷ q) l.1, l.2.1)

led_remains : (w : Entries) (d : List Symbol) (e : Entry) → Led w d e → Remains w d e
led_remains w [] e ([], s, x) = x
led_remains w [] e (z ∷ f, s, x) = absurd (cons-ne-nil _ _ s)
led_remains w (y ∷ d) e ([], s, x) = absurd (cons-ne-nil _ _ (sym s))
led_remains w (y ∷ d) e (z ∷ f, s, x) =
    let first : z.symbol ≡ y = cc in let others : symbols_of f ≡ d = cc in
    led_remains (After w y) d e
    (f, others, (z.mark, subst (λ q. w (prepend (step q z.mark) (led f e))) first x))

-- steps whose symbols begin so fall into two parts
front_split : (ss : List Step) (d more : List Symbol) → symbols_of ss ≡ d ++ more
    → (f : List Step) × (r : List Step) × (ss ≡ f ++ r) × (symbols_of f ≡ d)
front_split ss [] more s = ([], ss, refl, refl)
front_split [] (y ∷ d) more s = absurd (cons-ne-nil _ _ (sym s))
front_split (z ∷ ss) (y ∷ d) more s =
    let first : z.symbol ≡ y = cc in let others : symbols_of ss ≡ d ++ more = cc in
    let i = front_split ss d more others in
    (z ∷ i.0, i.1, ap (λ q. z ∷ q) i.2, ap (λ q. q ∷ symbols_of i.0) first ∙ ap (λ q. y ∷ q) i.3)

module _ (w : Entries) (d : List Symbol) where
  -- of an entry whose steps are so split the second part remains
  split_remains : (e : Entry) (f r : List Step) → w e → e.steps ≡ f ++ r → symbols_of f ≡ d
      → Remains w d (with_steps e r)
  split_remains e f r x split s =
      led_remains w d (with_steps e r) (f, s, subst (λ q. w (with_steps e q)) split x)

  entry_ends : (e : Entry) → w e → symbols e ≡ d → Remains w d (ended e.closing e.held)
  entry_ends e x s = split_remains e e.steps [] x (sym (append-nil e.steps)) s

  ends_entry : (m : Mark) (h : Bool) → Remains w d (ended m h)
      → (e : Entry) × w e × (symbols e ≡ d) × (e.held ≡ h)
  ends_entry m h x =
      let l = remains_led w d (ended m h) x in
      (led l.0 (ended m h), l.2, ap symbols_of (append-nil l.0) ∙ l.1, refl)

  pub ended_entry : Ended (Remains w d) → IsEntry w d
  ended_entry (m, h, x) = let e = ends_entry m h x in (e.0, e.1, e.2)

  pub entry_ended : IsEntry w d → Ended (Remains w d)
  entry_ended (e, x, s) = (e.closing, e.held, entry_ends e x s)

  pub settled_entry : Settled (Remains w d) → IsSettled w d
  settled_entry (m, x) = ends_entry m false x

  pub entry_settled : IsSettled w d → Settled (Remains w d)
  entry_settled (e, x, s, h) =
      (e.closing, subst (λ q. Remains w d (ended e.closing q)) h (entry_ends e x s))

  pub remains_begins : (e : Entry) → Remains w d e → BeginsEntry w d
  remains_begins e x =
      let l = remains_led w d e x in
      let joined = map-append (λ (z : Step). z.symbol) l.0 e.steps in
      (led l.0 e, l.2, (symbols e, joined ∙ ap (λ q. q ++ symbols e) l.1))

  pub begins_remains : BeginsEntry w d → (e : Entry) × Remains w d e
  begins_remains (e, x, (more, s)) =
      let i = front_split e.steps d more s in
      (with_steps e i.1, split_remains e i.0 i.1 x i.2 i.3)

  pub under_awaits : (m : Mark) → Under (Remains w d) m → AwaitsUnder w d m
  under_awaits m (inl (s, e, x)) =
      let l = remains_led w d (prepend (step s m) e) x in
      (led l.0 (prepend (step s m) e), l.2, (l.0, step s m ∷ e.steps, refl, l.1, refl))
  under_awaits m (inr (h, x)) =
      let l = remains_led w d (ended m h) x in
      (led l.0 (ended m h), l.2, (l.0, [], refl, l.1, refl))

  pub awaits_under : (m : Mark) → AwaitsUnder w d m → Under (Remains w d) m
  awaits_under m (e, x, (f, [], split, s, marked)) =
      inr (e.held, subst (λ q. Remains w d (ended q e.held)) marked (split_remains e f [] x split s))
  awaits_under m (e, x, (f, z ∷ r, split, s, marked)) =
      inl (
        z.symbol,
        with_steps e r,
        subst (λ q. Remains w d (with_steps e (step z.symbol q ∷ r))) marked
            (split_remains e f (z ∷ r) x split s),
      )

module _ (w : Entries) (d : List Symbol) where
  pub starts_begins : (y : Symbol) → Starts (Remains w d) y → BeginsEntry w (d ++ y ∷ [])
  starts_begins y (m, e, x) =
      remains_begins w (d ++ y ∷ []) e (subst (λ (q : Entries). q e) (sym (remains-++ w d (y ∷ []))) (m, x))

  pub begins_starts : (y : Symbol) → BeginsEntry w (d ++ y ∷ []) → Starts (Remains w d) y
  begins_starts y b =
      let r = begins_remains w (d ++ y ∷ []) b in
      let x : After (Remains w d) y r.0 =
      subst (λ (q : Entries). q r.0) (remains-++ w d (y ∷ [])) r.1 in
      (x.0, r.0, x.1)

  pub goes_further : GoesOn (Remains w d) → GoesFurther w d
  goes_further (s, e, x) = (s.symbol, starts_begins s.symbol (s.mark, e, x))

  pub further_goes : GoesFurther w d → GoesOn (Remains w d)
  further_goes (y, b) = let x = begins_starts y b in (step y x.0, x.1, x.2)
