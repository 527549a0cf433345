-- Keying ahead changes nothing. Assumes nothing.
use Rattle.std.proofs.Common.{◌≡◌, ℕ, List, [], ◌∷◌, refl, ap, subst}
use Rattle.keypad.specs.declared.key.KeyEvent.{KeyEvent}
use Rattle.keypad.specs.Entries.{Entries}
use Rattle.keypad.specs.Sets.{Same}
use Rattle.key_record.specs.declared.answer.Reply.{Reply}
use Rattle.key_record.specs.declared.call.Call.{Call}
use Rattle.key_record.specs.Record.{Kept, start, remaining, Runs}
use Rattle.key_record.specs.Kinds.{keys, armings, Unrefused, Smooth}
use Rattle.key_record.specs.Spelling.{Accounts}
use Rattle.key_record.specs.Entry.{open_dial}
use Rattle.key_record.proofs.Accounts.{steps_account, runs_account}
use Rattle.key_record.proofs.Leads.{shown, Leads, leads, ends}
use Rattle.key_record.proofs.Natures.{nature}
use Rattle.key_record.proofs.Parsed.{Shown, Parsed, parsed_unique}

-- a smooth run makes what its armings and its keys make
runs_lead : (w : Entries) (r : Kept) (l : List KeyEvent) (cs : List Call) (xs : List Reply) (n : Kept)
    → Accounts w r l → Runs w r cs xs n → Smooth cs xs → Leads w r (armings cs) (shown n) (keys cs)
runs_lead w r l [] [] n h e smooth = rw e (ends w r r.state.phase refl h.awake)
runs_lead w r l [] (x ∷ xs) n h f smooth = absurd f
runs_lead w r l (c ∷ cs) [] n h f smooth = absurd f
runs_lead w r l (c ∷ cs) (x ∷ xs) n h (m, s, f) (unexpired, unrefused, smooth) =
    let next = runs_lead w m _ cs xs n (steps_account w r l h c x m s) f smooth in
    leads w r (armings cs) (shown n) (keys cs) h.awake h.idle c unexpired s.effect
    (λ why e. subst Unrefused (rw e at s.answered) unrefused)
    (nature r.state w (remaining w r) c s.effect s.allowed) (rw s.noted at next)

runs_parsed : (w : Entries) (i : ℕ) (cs : List Call) (xs : List Reply) (n : Kept) → Runs w (start i) cs xs n
    → Smooth cs xs → Parsed w (armings cs) (shown n) [] (keys cs)
runs_parsed w i cs xs n f smooth =
    runs_lead w (start i) [] cs xs n (runs_account w i [] [] (start i) refl) f smooth

-- where the keys and the armings agree, each in order, it does not matter which keys were keyed ahead
pub keyed_ahead : (w v : Entries) → Same w v → (i j : ℕ) (cs ds : List Call) (xs ys : List Reply) (m n : Kept)
    → Runs w (start i) cs xs m → Runs v (start j) ds ys n → Smooth cs xs → Smooth ds ys → keys cs ≡ keys ds
    → armings cs ≡ armings ds → (m.reports ≡ n.reports) × (open_dial m.state ≡ open_dial n.state)
    × (m.state.ahead ≡ n.state.ahead)
keyed_ahead w v same i j cs ds xs ys m n f g smooth calm same_keys same-armings =
    let e = parsed_unique w v same (armings ds) (shown m) (shown n) [] (keys ds)
    (rw (same_keys, same-armings) at (runs_parsed w i cs xs m f smooth)) (runs_parsed v j ds ys n g calm) in
    (ap (λ (y : Shown). y.reports) e, ap (λ (y : Shown). y.dial) e, ap (λ (y : Shown). y.ahead) e)
