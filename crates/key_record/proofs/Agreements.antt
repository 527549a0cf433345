-- The agreement of lines, from the laws over runs. Assumes nothing.
use Rattle.std.proofs.Common.{◌≡◌, ℕ, List, map, sym, ap, ◌∙◌, subst}
use Rattle.keypad.specs.Entries.{Entries}
use Rattle.keypad.specs.Sets.{Same}
use Rattle.keypad.proofs.Sames.{same_refl}
use Rattle.key_record.specs.declared.call.Call.{Call}
use Rattle.key_record.specs.Agreement.{Shown, shown, reported, Recorded, Agreement}
use Rattle.key_record.specs.Record.{Kept, Runs, start}
use Rattle.key_record.proofs.Accounts.{runs_account}
use Rattle.key_record.proofs.Ahead.{keyed_ahead}
use Rattle.key_record.proofs.Meanings.{runs_mean, runs_tick}
use Rattle.key_record.proofs.Unique.{runs_unique}

-- a line that shows what a run of the record shows
pub recorded : (w : Entries) (number : ℕ) (cs : List Call) (a : Shown) (n : Kept) → Runs w (start number) cs
    a.replies n
    → a ≡ shown a.replies n → Recorded w number cs a
recorded w number cs a n f e = record {
  kept = n;
  runs = f;
  shows = e;
  only = λ xs m g. runs_unique w w (same_refl w) cs (start number) xs a.replies m n g f;
  accounts = runs_account w number cs a.replies n f;
  means = runs_mean w number cs a.replies n f;
  ticks = runs_tick w number cs a.replies n f;
}

module _ (w v : Entries) (number : ℕ) (cs ds : List Call) (a b : Shown) (f : Recorded w number cs a)
    (g : Recorded v number ds b) where
  alike : Same w v → cs ≡ ds → a ≡ b
  alike h e =
      let u = runs_unique w v h ds (start number) a.replies b.replies f.kept g.kept
      (subst (λ q. Runs w (start number) q a.replies f.kept) e f.runs) g.runs in
      let p : a.replies ≡ b.replies = u.0 in
      let q : f.kept ≡ g.kept = u.1 in
      let r : shown a.replies f.kept ≡ shown b.replies g.kept = rw (p, q) in
      f.shows ∙ r ∙ sym g.shows

  pub agreement : Agreement w v number cs ds a b
  agreement = record {
    first = f;
    second = g;
    same_calls = alike;
    keyed_ahead = λ h k m s t.
        let u = keyed_ahead w v h number number cs ds a.replies b.replies f.kept g.kept f.runs
        g.runs s t k m in (
          ap (λ (z : Shown). z.reports) f.shows ∙ ap (map reported) u.0 ∙ sym
              (ap (λ (z : Shown). z.reports) g.shows),
          ap (λ (z : Shown). z.entry) f.shows ∙ u.1 ∙ sym (ap (λ (z : Shown). z.entry) g.shows),
          ap (λ (z : Shown). z.ahead) f.shows ∙ u.2 ∙ sym (ap (λ (z : Shown). z.ahead) g.shows),
        );
  }
