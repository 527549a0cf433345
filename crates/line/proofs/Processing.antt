-- One key fed to the entry of a line, by what pressing it told. Assumes nothing.
use Rattle.std.proofs.Common.{◌≡◌, ◌+◌, Bool, cond, leb, List, [], ◌∷◌, ◌++◌, Some, None, MatchOption, IsSomeAnd, Option, sym, refl, ap, ◌∙◌, subst, append-nil}
use Rattle.std.proofs.lemmas.Bool.{cond-true, le-leb}
use Rattle.keypad.specs.declared.key.KeyEvent.{KeyEvent}
use Rattle.keypad.specs.declared.key.Symbol.{Symbol}
use Rattle.keypad.specs.Entries.{Entries}
use Rattle.keypad.specs.Sets.{Same, After}
use Rattle.key_record.specs.declared.ending.Ending.{Ending}
use Rattle.key_record.specs.declared.ending.Method.{Method}
use Rattle.key_record.specs.declared.ending.Trigger.TheVariants as trigger
use Rattle.key_record.specs.Dials.{width, chars}
use Rattle.key_record.specs.Keying.{is_long, Chosen, Extra, Judged, Missed}
use Rattle.key_record.specs.Rules.{Fits}
use Rattle.key_record.specs.States.{State}
use Rattle.key_record.specs.Turns.{pressed, closed, unmatched}
use Rattle.key_record.proofs.Alike.{judged_same, missed_same, extra_same}
use Rattle.line.specs.declared.line.Line.{Line}
use Rattle.line.specs.Lines.{state_of}
use Rattle.line.specs.Processed.{Processed, dialled_on}

-- the dial string once a symbol was pushed, if it had room
abbrev pub pushed : List Symbol → Symbol → List Symbol
pushed d y = cond (leb (chars d + width y) 64) (d ++ y ∷ []) d

abbrev pub with_dial : State → List Symbol → State
with_dial st d = record {
  number = st.number;
  phase = st.phase;
  settings = st.settings;
  dial = d;
  ahead = st.ahead;
  count = st.count;
}

-- the key k of the line l led to m, which has other than its plan and its dial string what l has
module _ {X : Type 0} (whole rest : X → Entries) (l : Line X) (k : KeyEvent) (m : Line X) (long : Bool)
    (held : long ≡ is_long l.settings.timers k) (same : Same (whole m.plan) (whole l.plan))
    (kept : state_of m ≡ with_dial (state_of l) (state_of m).dial) where
  -- what is told by whether the key was long
  told : (P : Bool → Type 0) → P long → P (is_long l.settings.timers k)
  told P x = subst P held x

  -- it was pressed as y
  module _ (fits : Fits (state_of l) (rest l.plan) k) (y : Symbol)
      (chosen : Chosen (rest l.plan) long k.key (Some y))
      (dial : (state_of m).dial ≡ pushed (state_of l).dial y)
      (left : Same (rest m.plan) (After (rest l.plan) y)) where
    as_symbol : Chosen (rest l.plan) (is_long l.settings.timers k) k.key (Some y)
    as_symbol = told (λ b. Chosen (rest l.plan) b k.key (Some y)) chosen

    joined : state_of m ≡ dialled_on (state_of l) (y ∷ [])
    joined =
        let e = cond-true _ _ (state_of l).dial (le-leb _ 64 (fits y as_symbol)) in
        kept ∙ ap (with_dial (state_of l)) (dial ∙ e)

    after : (r : Option Method) → Judged l.settings.procedure (rest m.plan) r
        → Judged l.settings.procedure (After (rest l.plan) y) r
    after = judged_same (rest m.plan) (After (rest l.plan) y) left l.settings.procedure

    pub processed_on : Judged l.settings.procedure (rest m.plan) None → Processed whole rest l k None m
    processed_on judged = record {
      turned = pressed y;
      turns = (as_symbol, after None judged);
      ended = refl;
      state = joined;
      same = same;
      remains = left;
    }

    pub processed_last : (method : Method) → Judged l.settings.procedure (rest m.plan) (Some method)
        → Processed whole rest l k (Some (record { method = method; trigger = trigger.Press })) m
    processed_last method judged = record {
      turned = closed y method;
      turns = (as_symbol, after (Some method) judged);
      ended = refl;
      state = joined;
      same = same;
      remains = left;
    }

    -- the method that it is judged by, if there is one, makes the ending
    pub processed_judged : {P : Method → Ending → Type 0} (r : Option Method)
        → Judged l.settings.procedure (rest m.plan) r → (x : Option Ending)
        → MatchOption r (x ≡ None) (λ method. IsSomeAnd x (λ e. P method e))
        → ((method : Method) (e : Ending) → P method e → e ≡ record { method = method; trigger = trigger.Press })
        → Processed whole rest l k x m
    processed_judged None judged x h made = rw h (processed_on judged)
    processed_judged (Some method) judged None h made = absurd h
    processed_judged (Some method) judged (Some e) h made = rw (made method e h) (processed_last method judged)

  -- it was not pressed
  pub processed_extra : Chosen (rest l.plan) long k.key None → (state_of m).dial ≡ (state_of l).dial
      → Same (rest m.plan) (rest l.plan) → (y : Symbol) → Extra (rest m.plan) long k.key y
      → (method : Method) → Missed l.settings.procedure (rest m.plan) method
      → Processed whole rest l k (Some (record { method = method; trigger = trigger.Extra y })) m
  processed_extra none dial left y extra method missed =
      let a = rest l.plan in
      let b = rest m.plan in
      record {
        turned = unmatched y method;
        turns = (
          told (λ h. Chosen a h k.key None) none,
          told (λ h. Extra a h k.key y) (extra_same b a left long k.key y extra),
          missed_same b a left l.settings.procedure method missed,
        );
        ended = refl;
        state = kept ∙ ap (with_dial (state_of l)) (dial ∙ sym (append-nil (state_of l).dial));
        same = same;
        remains = left;
      }
