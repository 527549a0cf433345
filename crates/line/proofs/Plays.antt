-- A line over a list of calls shows what the record of keys shows. Assumes nothing.
use Rattle.std.proofs.Common.{◌≡◌, ℕ, ◌+◌, ◌<◌, ◌≤◌, List, [], ◌∷◌, ◌++◌, map, length, get_or, take, Some, None, vec_items, sym, refl, ap, ◌∙◌, subst}
use Rattle.std.proofs.lemmas.List.{append-nil, append_assoc, map-append, take_all, take_more}
use Rattle.keypad.specs.Entries.{Entries}
use Rattle.keypad.specs.Sets.{Same}
use Rattle.key_record.specs.declared.call.Call.{Call}
use Rattle.key_record.specs.Agreement.{reported, joined, Recorded}
use Rattle.key_record.specs.Effects.{Effect, refuses, queues, begins, presses, claims, settles}
use Rattle.key_record.specs.Record.{Kept, note, start, Runs}
use Rattle.key_record.specs.Turns.{still, over}
use Rattle.key_record.proofs.Agreements.{recorded}
use Rattle.key_record.proofs.Moves.{runs_snoc}
use Rattle.key_record.proofs.Phases.{idle_shut}
use Rattle.key_record.specs.States.{made_with}
use Rattle.line.specs.declared.play.Played.{Played}
use Rattle.line.specs.Lines.{state_of}
use Rattle.line.specs.Plays.{report_shown, played_shown, brought, Noted}
use Rattle.line.specs.Written.{written}
use Rattle.line.specs.Rooms.{Blank}
use Rattle.line.proofs.Follows.{Follows, follows_does}

joined_push : (ls : List (List ℕ)) (l : List ℕ) → joined (ls ++ l ∷ []) ≡ joined ls ++ l
joined_push [] l = append-nil l
joined_push (k ∷ ls) l = rw (joined_push ls l, append_assoc)

-- the bytes and the reports that noting an effect adds
note_lines : (r : Kept) (f : Effect) → joined (note r f).lines ≡ joined r.lines ++ written f
note_lines r (refuses why) = sym (append-nil (joined r.lines))
note_lines r (queues k) = sym (append-nil (joined r.lines))
note_lines r (begins s (still p t)) = sym (append-nil (joined r.lines))
note_lines r (begins s (over o)) = sym (append-nil (joined r.lines))
note_lines r (presses (still p t)) = sym (append-nil (joined r.lines))
note_lines r (presses (over o)) = sym (append-nil (joined r.lines))
note_lines r (claims e) = sym (append-nil (joined r.lines))
note_lines r (settles None) = sym (append-nil (joined r.lines))
note_lines r (settles (Some l)) = joined_push r.lines l

note_reports : (r : Kept) (f : Effect)
    → map reported (note r f).reports ≡ map reported r.reports ++ brought (note r f).state f
note_reports r (refuses why) = sym (append-nil (map reported r.reports))
note_reports r (queues k) = sym (append-nil (map reported r.reports))
note_reports r (begins s (still p t)) = sym (append-nil (map reported r.reports))
note_reports r (begins s (over o)) = map-append reported r.reports _
note_reports r (presses (still p t)) = sym (append-nil (map reported r.reports))
note_reports r (presses (over o)) = map-append reported r.reports _
note_reports r (claims e) = sym (append-nil (map reported r.reports))
note_reports r (settles None) = sym (append-nil (map reported r.reports))
note_reports r (settles (Some l)) = sym (append-nil (map reported r.reports))

-- the log of p is that of the record which the calls cs leave, and its line follows that record
pub record Going {X : Type 0} (whole rest : X → Entries) (w : Entries) (number : ℕ) (cs : List Call)
    (p : Played X) : Type 0 where
  pub kept : Kept
  pub runs : Runs w (start number) cs (vec_items p.log.replies) kept
  pub follows : Follows whole rest w p.line kept
  pub reports : map report_shown (vec_items p.log.reports) ≡ map reported kept.reports
  pub lines : vec_items p.log.lines ≡ joined kept.lines

module _ {X : Type 0} (whole rest : X → Entries) (number : ℕ) (w : Entries) where
  pub going_none : (p : Played X) → state_of p.line ≡ made_with number → Same (whole p.line.plan) w
      → Blank p.log → Going whole rest w number [] p
  going_none p e h b = record {
    kept = start number;
    runs = rw b.replies refl;
    follows = record { state = e; wholly = h; remains = λ o. absurd (idle_shut _ refl o) };
    reports = ap (map report_shown) b.reports;
    lines = b.lines;
  }

  -- one call more
  going_more : (cs : List Call) (c : Call) (p q : Played X) → Going whole rest w number cs p
      → Noted whole rest p c q → Going whole rest w number (cs ++ c ∷ []) q
  going_more cs c p q g n =
      let r = g.kept in
      let f = n.does.effect in
      let d = follows_does whole rest w p.line q.line r c n.reply.answer g.follows n.does
      n.reply.timer n.running in
      record {
        kept = note r f;
        runs = subst (λ xs. Runs w (start number) (cs ++ c ∷ []) xs (note r f)) (sym n.replies)
            (runs_snoc w cs (start number) r (note r f) (vec_items p.log.replies) c n.reply g.runs
            d.0);
        follows = d.1;
        reports = n.reports ∙ ap (λ l. l ++ brought (state_of q.line) f) g.reports
            ∙ ap (λ st. map reported r.reports ++ brought st f) d.1.state ∙ sym (note_reports r f);
        lines = n.lines ∙ ap (λ l. l ++ written f) g.lines ∙ sym (note_lines r f);
      }

  pub going_next : (cs : List Call) (i : ℕ) (u : Call) (p q : Played X) → i < length cs
      → Going whole rest w number (take i cs) p → Noted whole rest p (get_or cs i u) q
      → Going whole rest w number (take (i + 1) cs) q
  going_next cs i u p q lt g n = subst (λ k. Going whole rest w number k q) (sym (take_more cs i u lt))
      (going_more (take i cs) (get_or cs i u) p q g n)

  -- the calls are all played
  pub going_all : (cs : List Call) (i : ℕ) (p : Played X) → length cs ≤ i
      → Going whole rest w number (take i cs) p → Recorded w number cs (played_shown p)
  going_all cs i p long g =
      let xs = vec_items p.log.replies in
      let e = g.reports in
      let k = g.lines in
      let s = g.follows.state in
      recorded w number cs (played_shown p) g.kept
      (subst (λ ds. Runs w (start number) ds xs g.kept) (take_all i cs long) g.runs) (rw (e, k, ← s))
