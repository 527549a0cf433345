-- The cases of a sale hold, each by computing it. Assumes nothing.
use Rattle.std.proofs.Common.{◌≡◌, ℕ, List, [], ◌∷◌, map, Some, None, Option, refl, subst, arith}
use Rattle.keypad.specs.declared.timers.Timers.{Timers}
use Rattle.digit_map.specs.declared.node.Node.{Node}
use Rattle.digit_map.specs.Meaning.{MapEntry}
use Rattle.digit_map.specs.Reads.{reads}
use Rattle.digit_map.specs.Turns.{Turn, on, done, bad}
use Rattle.digit_map.proofs.Propers.{derived_proper}
use Rattle.digit_map.proofs.Reading.{read_derives, read_blames}
use Rattle.key_record.specs.declared.answer.Reply.{Reply}
use Rattle.key_record.specs.Record.{Kept, start}
use Rattle.sale_cases.specs.Rows.{Expected, faulty, waits, reports, Row, sale_rows}
use Rattle.sale_cases.specs.Cases.{last_answer, last_line, calls_of, Fits, Walks}
use Rattle.sale_cases.specs.Cases.{HoldsAs, Holds, AllHold, SaleCases}
use Rattle.sale_cases.proofs.Plays.{replies, played, plays}
use Rattle.sale_cases.proofs.MapFacts.{map_facts, map_decides}
use Rattle.sale_cases.proofs.Shown.{shown_by, shown_fits}

-- the replies to a row's calls over the places of its map, and the record after them
abbrev row_replies : Row → Timers → List Node → List Reply
row_replies r t ns = replies (map_facts ns) (start 1) (calls_of r t)

abbrev row_kept : Row → Timers → List Node → Kept
row_kept r t ns = played (map_facts ns) (start 1) (calls_of r t)

-- what a row shows, by what its text is read as
abbrev shown_as : Row → Turn → Option Expected
shown_as r (on s) = None
shown_as r (done t ns) = shown_by (last_answer None (row_replies r t ns))
    (last_line None (row_kept r t ns).reports)
shown_as r (bad f) = Some (faulty f)

abbrev shown : Row → Option Expected
shown r = shown_as r (reads r.text)

abbrev expects : Row → Option Expected
expects r = Some r.expected

-- a fault is expected of no map
holds_walked : (x : Expected) (r : Row) (xs : List Reply) (n : Kept) → Fits x xs n → Walks r → HoldsAs x r
holds_walked (faulty f) r xs n c w = absurd c
holds_walked (waits t s) r xs n c w = w
holds_walked (reports l) r xs n c w = w

module _ (r : Row) where
  shown_holds : (x : Turn) → reads r.text ≡ x → shown_as r x ≡ expects r → Holds r
  shown_holds (on s) e c = let z : ◌≡◌ {A = ℕ} 0 1 = cc in absurd (omega arith)
  shown_holds (bad f) e c =
      let k : faulty f ≡ r.expected = cc in subst (λ v. HoldsAs v r) k (read_blames r.text f e)
  shown_holds (done t ns) e c =
      let d = read_derives r.text t ns e in
      let k = map_decides ns (derived_proper d.admitted.whole) in
      let f = shown_fits r.expected (row_replies r t ns) (row_kept r t ns) c in
      holds_walked r.expected r (row_replies r t ns) (row_kept r t ns) f (record {
        timers = t;
        nodes = ns;
        derived = d;
        replies = row_replies r t ns;
        kept = row_kept r t ns;
        runs = plays (MapEntry ns) (map_facts ns) k (start 1) (calls_of r t);
        fits = f;
      })

all_hold : (rs : List Row) → map shown rs ≡ map expects rs → AllHold rs
all_hold [] e = tt
all_hold (r ∷ rs) e =
    let here : shown r ≡ expects r = cc in
    let behind : map shown rs ≡ map expects rs = cc in
    (shown_holds r (reads r.text) refl here, all_hold rs behind)

pub sale_cases_lem : SaleCases
sale_cases_lem = all_hold sale_rows refl
