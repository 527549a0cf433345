-- Over one set of entries a key turns one way, and keys lead to one outcome. Assumes nothing.
use Rattle.std.proofs.Common.{◌≡◌, List, [], ◌∷◌, ◌++◌, Some, None, Option, sym, subst}
use Rattle.keypad.specs.declared.key.KeyEvent.{KeyEvent}
use Rattle.keypad.specs.declared.key.Symbol.{Symbol}
use Rattle.keypad.specs.Entries.{Entries}
use Rattle.keypad.specs.Sets.{After, Remains}
use Rattle.key_record.specs.declared.ending.Method.{Method}
use Rattle.key_record.specs.declared.settings.Settings.{Settings}
use Rattle.key_record.specs.Keying.{is_long, Chosen, Judged}
use Rattle.key_record.specs.Turns.{Turned, pressed, closed, unmatched, Turns, ByTurn, Outcome, Fed}
use Rattle.key_record.proofs.Singles.{chosen_single, extra_single, judged_single, missed_single}

-- the symbol that a key is pressed as
abbrev choice : Turned → Option Symbol
choice (pressed y) = Some y
choice (closed y m) = Some y
choice (unmatched y m) = None

module _ (s : Settings) (a : Entries) (k : KeyEvent) where
  turns_choice : (u : Turned) → Turns s a k u → Chosen a (is_long s.timers k) k.key (choice u)
  turns_choice (pressed y) x = x.0
  turns_choice (closed y m) x = x.0
  turns_choice (unmatched y m) x = x.0

  judged_after : (y z : Symbol) (m n : Option Method) → Some y ≡ Some z → Judged s.procedure (After a y) m
      → Judged s.procedure (After a z) n → m ≡ n
  judged_after y z m n e f g =
      judged_single (After a z) s.procedure m n (subst (λ q. Judged s.procedure (After a q) m) (cc) f) g

  choice_turns : (u v : Turned) → choice u ≡ choice v → Turns s a k u → Turns s a k v → u ≡ v
  choice_turns (pressed y) (pressed z) e f g = cc
  choice_turns (pressed y) (closed z n) e f g = let j = judged_after y z None (Some n) e f.1 g.1 in cc
  choice_turns (pressed y) (unmatched z n) e f g = cc
  choice_turns (closed y m) (pressed z) e f g = let j = judged_after y z (Some m) None e f.1 g.1 in cc
  choice_turns (closed y m) (closed z n) e f g =
      let j = judged_after y z (Some m) (Some n) e f.1 g.1 in
      cc
  choice_turns (closed y m) (unmatched z n) e f g = cc
  choice_turns (unmatched y m) (pressed z) e f g = cc
  choice_turns (unmatched y m) (closed z n) e f g = cc
  choice_turns (unmatched y m) (unmatched z n) e f g =
      let i = extra_single a (is_long s.timers k) k.key y z f.1 g.1 in
      let j = missed_single a s.procedure m n f.2 g.2 in
      cc

  pub turns_single : (u v : Turned) → Turns s a k u → Turns s a k v → u ≡ v
  turns_single u v f g =
      let e = chosen_single a (is_long s.timers k) k.key _ _ (turns_choice u f) (turns_choice v g) in
      choice_turns u v e f g

-- two that lead on from one turn
by_turn_both : {R : Type 0} {A X : Symbol → Type 0} {B C Y Z : Symbol → Method → Type 0} (u : Turned)
    → ((y : Symbol) → A y → X y → R) → ((y : Symbol) (m : Method) → B y m → Y y m → R)
    → ((y : Symbol) (m : Method) → C y m → Z y m → R) → ByTurn u A B C → ByTurn u X Y Z → R
by_turn_both (pressed y) f g h x z = f y x z
by_turn_both (closed y m) f g h x z = g y m x z
by_turn_both (unmatched y m) f g h x z = h y m x z

pub fed_single : (s : Settings) (a : Entries) (p : List Symbol) (t ks : List KeyEvent) (x y : Outcome)
    → Fed s a p t ks x → Fed s a p t ks y → x ≡ y
fed_single s a p t [] x y f g = cc
fed_single s a p t (k ∷ ks) x y f g =
    let e = turns_single s (Remains a p) k f.0 g.0 f.1 g.1 in
    by_turn_both f.0 (λ z. fed_single s a (p ++ z ∷ []) (t ++ k ∷ []) ks x y) (λ z m i j. cc)
    (λ z m i j. cc) f.2 (subst (λ u. ByTurn u _ _ _) (sym e) g.2)
