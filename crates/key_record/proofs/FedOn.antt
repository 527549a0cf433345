-- Feeding keys on from where an entry stands. Assumes nothing.
use Rattle.std.proofs.Common.{◌≡◌, ℕ, List, [], ◌∷◌, ◌++◌, refl, ap, ◌∙◌, subst, append-nil, arith}
use Rattle.keypad.specs.declared.key.KeyEvent.{KeyEvent}
use Rattle.keypad.specs.declared.key.Symbol.{Symbol}
use Rattle.keypad.specs.Entries.{Entries}
use Rattle.keypad.specs.Sets.{Remains}
use Rattle.key_record.specs.declared.settings.Settings.{Settings}
use Rattle.key_record.specs.Turns.{pressed, closed, unmatched, Over, Outcome, still, over, Fed}

-- an entry that is still open goes on from there
pub fed_on : (s : Settings) (a : Entries) (p q : List Symbol) (t v ks ls : List KeyEvent) (out : Outcome)
    → Fed s a p t ks (still q v) → Fed s a q v ls out → Fed s a p t (ks ++ ls) out
fed_on s a p q t v [] ls out e g =
    let pq : q ≡ p = cc in let vt : v ≡ t = cc in
    subst (λ d. Fed s a d t ls out) pq (subst (λ d. Fed s a q d ls out) vt g)
fed_on s a p q t v (k ∷ ks) ls out (pressed y, turns, f) g =
    (pressed y, turns, fed_on s a (p ++ y ∷ []) q (t ++ k ∷ []) v ks ls out f g)
fed_on s a p q t v (k ∷ ks) ls out (closed y m, turns, e) g =
    absurd (let z : ◌≡◌ {A = ℕ} 0 1 = cc in omega arith)
fed_on s a p q t v (k ∷ ks) ls out (unmatched y m, turns, e) g =
    absurd (let z : ◌≡◌ {A = ℕ} 0 1 = cc in omega arith)

-- the outcome where more keys stand behind
abbrev pub lengthened : List KeyEvent → Outcome → Outcome
lengthened ls (still p t) = still p t
lengthened ls (over o) = over (record {
  pressed = o.pressed;
  taken = o.taken;
  ending = o.ending;
  extra = o.extra;
  left = o.left ++ ls;
})

-- an entry that is over leaves them all
pub fed_over : (s : Settings) (a : Entries) (p : List Symbol) (t ks ls : List KeyEvent) (o : Over)
    → Fed s a p t ks (over o) → Fed s a p t (ks ++ ls) (lengthened ls (over o))
fed_over s a p t [] ls o e = absurd (let z : ◌≡◌ {A = ℕ} 0 1 = cc in omega arith)
fed_over s a p t (k ∷ ks) ls o (pressed y, turns, f) =
    (pressed y, turns, fed_over s a (p ++ y ∷ []) (t ++ k ∷ []) ks ls o f)
fed_over s a p t (k ∷ ks) ls o (closed y m, turns, e) = (closed y m, turns, ap (lengthened ls) e)
fed_over s a p t (k ∷ ks) ls o (unmatched y m, turns, e) = (unmatched y m, turns, ap (lengthened ls) e)

-- the outcome with the symbols and the keys before it put in front
abbrev pub behind : List Symbol → List KeyEvent → Outcome → Outcome
behind p t (still q v) = still (p ++ q) (t ++ v)
behind p t (over o) = over (record {
  pressed = p ++ o.pressed;
  taken = t ++ o.taken;
  ending = o.ending;
  extra = o.extra;
  left = o.left;
})

-- a key fed to what remains is fed to the whole, behind the symbols that were pressed
pub fed_behind : (s : Settings) (a : Entries) (p : List Symbol) (t : List KeyEvent) (k : KeyEvent)
    (out : Outcome) → Fed s (Remains a p) [] [] (k ∷ []) out → Fed s a p t (k ∷ []) (behind p t out)
fed_behind s a p t k out (pressed y, turns, e) = (pressed y, turns, ap (behind p t) e)
fed_behind s a p t k out (closed y m, turns, e) = (closed y m, turns, ap (behind p t) e)
fed_behind s a p t k out (unmatched y m, turns, e) =
    (unmatched y m, turns, ap (behind p t) e ∙ rw (append-nil p, append-nil t))

pub behind_nothing : (out : Outcome) → behind [] [] out ≡ out
behind_nothing (still q v) = refl
behind_nothing (over o) = refl
