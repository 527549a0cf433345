-- What a key that was fed makes of an entry. Assumes nothing.
use Rattle.std.proofs.Common.{◌≡◌, ℕ, ◌+◌, ◌≤◌, cond, List, [], ◌∷◌, ◌++◌, drop, Some, None, Option, sym, refl, ap, append-nil, arith}
use Rattle.keypad.specs.declared.key.KeyEvent.{KeyEvent}
use Rattle.keypad.specs.declared.key.Symbol.{Symbol}
use Rattle.keypad.specs.Entries.{Entries}
use Rattle.keypad.specs.Sets.{Remains}
use Rattle.key_record.specs.declared.ending.Ending.{Ending}
use Rattle.key_record.specs.declared.ending.Trigger.{Trigger}
use Rattle.key_record.specs.declared.ending.Trigger.TheVariants.{Press, Extra, Expiry}
use Rattle.key_record.specs.declared.settings.Disposition.{Disposition}
use Rattle.key_record.specs.declared.settings.Disposition.TheVariants.{Keep, Drop}
use Rattle.key_record.specs.declared.settings.Settings.{Settings}
use Rattle.key_record.specs.Dials.{chars}
use Rattle.key_record.specs.States.{kept_extra}
use Rattle.key_record.specs.Turns.{Turned, pressed, closed, unmatched, Turns, Over, still, over, Fed}
use Rattle.key_record.proofs.Dials.{width_bounds}
use Rattle.line.specs.Processed.{turned_symbols, turned_ending, keeps}

-- the key k, if it was unmatched
abbrev pub extra_at : Trigger → KeyEvent → Option KeyEvent
extra_at Press k = None
extra_at (Extra y) k = Some k
extra_at (Expiry t) k = None

-- the entry ended so at the key k; ks are the keys behind it
abbrev pub ended_at : List Symbol → List KeyEvent → Ending → KeyEvent → List KeyEvent → Over
ended_at p t e k ks = record {
  pressed = p;
  taken = t;
  ending = e;
  extra = extra_at e.trigger k;
  left = ks;
}

pub symbols_width : (u : Turned) → chars (turned_symbols u) ≤ 2
symbols_width (pressed y) = let w = width_bounds y in omega arith
symbols_width (closed y m) = let w = width_bounds y in omega arith
symbols_width (unmatched y m) = omega arith

module _ (s : Settings) (a : Entries) (p : List Symbol) (t : List KeyEvent) (k : KeyEvent) where
  pub turn_waits : (u : Turned) → Turns s (Remains a p) k u → None ≡ turned_ending u
      → Fed s a p t (k ∷ []) (still (p ++ turned_symbols u) (t ++ k ∷ []))
  turn_waits (pressed y) x h = (pressed y, x, refl)
  turn_waits (closed y m) x h = absurd (let z : ◌≡◌ {A = ℕ} 0 1 = cc in omega arith)
  turn_waits (unmatched y m) x h = absurd (let z : ◌≡◌ {A = ℕ} 0 1 = cc in omega arith)

  pub turn_ends : (ks : List KeyEvent) (u : Turned) (e : Ending) → Turns s (Remains a p) k u
      → Some e ≡ turned_ending u
      → (v : List KeyEvent) × Fed s a p t (k ∷ ks) (over (ended_at (p ++ turned_symbols u) v e k ks))
  turn_ends ks (pressed y) e x h = absurd (let z : ◌≡◌ {A = ℕ} 0 1 = cc in omega arith)
  turn_ends ks (closed y m) e x h =
      (t ++ k ∷ [], (closed y m, x, ap (λ q. over (ended_at (p ++ y ∷ []) (t ++ k ∷ []) q k ks)) (cc)))
  turn_ends ks (unmatched y m) e x h =
      (t, (unmatched y m, x, rw (append-nil p) (ap (λ q. over (ended_at p t q k ks)) (cc))))

-- the keys that stay ahead where the key behind the first n ended the entry
pub ahead_left : (d : Disposition) (r : Trigger) (n : ℕ) (q : List KeyEvent) (k : KeyEvent)
    → drop n q ≡ k ∷ drop (n + 1) q
    → drop (cond (keeps d r) n (n + 1)) q ≡ kept_extra d (extra_at r k) ++ (drop (n + 1) q ++ [])
ahead_left d Press n q k h = sym (append-nil (drop (n + 1) q))
ahead_left Keep (Extra y) n q k h = rw append-nil h
ahead_left Drop (Extra y) n q k h = sym (append-nil (drop (n + 1) q))
ahead_left d (Expiry t) n q k h = sym (append-nil (drop (n + 1) q))
