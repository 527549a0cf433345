-- What a record and the armings and keys to come make. Assumes nothing.
use Rattle.std.proofs.Common.{◌≡◌, List, [], ◌∷◌, ◌++◌, Some, None, refl, subst, inl, inr, append_assoc, append-nil}
use Rattle.keypad.specs.declared.key.KeyEvent.{KeyEvent}
use Rattle.keypad.specs.Entries.{Entries}
use Rattle.key_record.specs.declared.call.Call.{Call}
use Rattle.key_record.specs.declared.ending.Ending.{Ending}
use Rattle.key_record.specs.declared.ending.Phase.{Phase}
use Rattle.key_record.specs.declared.ending.Phase.TheVariants.{Idle, Open, Done, Claimed}
use Rattle.key_record.specs.declared.refusal.Refusal.{Refusal}
use Rattle.key_record.specs.declared.settings.Settings.{Settings}
use Rattle.key_record.specs.Turns.{Outcome, still, over, Fed}
use Rattle.key_record.specs.States.{State, armed, lands}
use Rattle.key_record.specs.Effects.{Effect, refuses, queues, begins, presses, claims, settles}
use Rattle.key_record.specs.Record.{Kept, notes, note, remaining}
use Rattle.key_record.specs.Kinds.{key_of, arming_of, Unexpired}
use Rattle.key_record.specs.Entry.{open_dial}
use Rattle.key_record.proofs.Natures.{Settlement, Nature}
use Rattle.key_record.proofs.Phases.{idle_shut}
use Rattle.key_record.proofs.FedOn.{fed_on, fed_over, behind, fed_behind, behind_nothing}
use Rattle.key_record.proofs.Parsed.{Shown, Entered, Parsed}

abbrev pub shown : Kept → Shown
shown r = record { reports = r.reports; dial = open_dial r.state; ahead = r.state.ahead }

abbrev ByPhase : Phase → Type 0 → Type 0 → Type 0
ByPhase Idle A B = B
ByPhase Open A B = A
ByPhase (Done e) A B = B
ByPhase (Claimed e) A B = B

by_shut : (A B : Type 0) (p : Phase) → (p ≡ Open → ⊥) → ByPhase p A B ≡ B
by_shut A B Idle shut = refl
by_shut A B Open shut = absurd (shut refl)
by_shut A B (Done e) shut = refl
by_shut A B (Claimed e) shut = refl

-- of the record, the armings and the keys to come make z
abbrev pub Leads : Entries → Kept → List Settings → Shown → List KeyEvent → Type 0
Leads w r ss z ks = ByPhase r.state.phase
    (Entered (Parsed w ss z) w z r.reports r.state.settings r.state.dial r.taken ks)
    (Parsed w ss z r.reports (r.state.ahead ++ ks))

module _ (w : Entries) (r : Kept) (ss : List Settings) (z : Shown) (ks : List KeyEvent) where
  -- an entry whose keys ls come to an outcome goes on as the record of that outcome
  landed : (st : State) (ls : List KeyEvent) (out : Outcome)
      → Fed st.settings w st.dial r.taken ls (behind st.dial r.taken out) → st.ahead ≡ []
      → Leads w (notes r (lands st out) out) ss z ks
      → Entered (Parsed w ss z) w z r.reports st.settings st.dial r.taken (ls ++ ks)
  landed st ls (still p t) fed none (out, feeds, on) =
      (out, fed_on st.settings w st.dial _ r.taken _ ls ks out fed feeds, on)
  landed st ls (over o) fed none parsed = (
    _,
    fed_over st.settings w st.dial r.taken ls ks _ fed,
    rw (none, append-nil, append_assoc) at parsed,
  )

  settled : (c : Call) (m : Ending) → r.state.phase ≡ Claimed m → Settlement c
      → Parsed w ss z r.reports (r.state.ahead ++ ks) → Leads w r (arming_of c ++ ss) z (key_of c ++ ks)
  settled c m claimed (inl (n, e)) l = rw (e, claimed) l
  settled c m claimed (inr (n, size, e)) l = rw (e, claimed) l

  -- what is to come of a record is what its next call brings and what is to come after that
  pub leads : (r.state.phase ≡ Open → r.state.ahead ≡ []) → ((r.state.phase ≡ Open → ⊥) → r.taken ≡ [])
      → (c : Call) → Unexpired c → (f : Effect) → ((why : Refusal) → f ≡ refuses why → ⊥)
      → Nature r.state w (remaining w r) c f
      → Leads w (note r f) ss z ks → Leads w r (arming_of c ++ ss) z (key_of c ++ ks)
  leads awake idle c unexpired (refuses why) accepted n l = absurd (accepted why refl)
  leads awake idle c unexpired (queues k) accepted (e, shut) l =
      rw (e, by_shut) (rw (by_shut, append_assoc) at l)
  leads awake idle c unexpired (begins s out) accepted (e, rest, fed) l =
      let none = idle (idle_shut _ rest) in
      let feeds : Fed s w [] r.taken r.state.ahead (behind [] r.taken out) =
      rw (none, behind_nothing) fed in
      rw (e, rest) (rw none at (landed (armed r.state s) r.state.ahead out feeds refl l))
  leads awake idle c unexpired (presses out) accepted (opened, inl (k, e, fed)) l =
      let feeds = fed_behind r.state.settings w r.state.dial r.taken k out fed in
      rw (e, opened) (landed r.state (k ∷ []) out feeds (awake opened) l)
  leads awake idle c unexpired (presses out) accepted (opened, inr (t, m, e, falls, is)) l =
      absurd (subst Unexpired e unexpired)
  leads awake idle c unexpired (claims m) accepted (e, done) l = rw (e, done) l
  leads awake idle c unexpired (settles None) accepted ((m, claimed), n) l = settled c m claimed n l
  leads awake idle c unexpired (settles (Some h)) accepted ((m, claimed), n) l = settled c m claimed n l

-- where no more comes, a record makes what it shows
pub ends : (w : Entries) (r : Kept) (p : Phase) → r.state.phase ≡ p
    → (r.state.phase ≡ Open → r.state.ahead ≡ []) → Leads w r [] (shown r) []
ends w r Idle e awake = rw (e, append-nil)
ends w r Open e awake = rw (e, awake e) (_, refl, refl)
ends w r (Done m) e awake = rw (e, append-nil)
ends w r (Claimed m) e awake = rw (e, append-nil)
