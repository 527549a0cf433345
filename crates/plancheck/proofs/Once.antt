-- A text is kept or shown in one way only. Assumes nothing.
use Rattle.std.proofs.Common.{◌≡◌, ℕ, List, ◌∷◌, ◌++◌, Ok, Err, sym, refl, ap, ◌∙◌, subst, arith}
use Rattle.keypad.specs.declared.key.Symbol.{Symbol}
use Rattle.digit_map.specs.Derives.{ReadExactly}
use Rattle.digit_map.specs.Maps.{places, timers_of}
use Rattle.digit_map.specs.declared.fault.Fault.{Fault}
use Rattle.digit_map.specs.declared.map.Map.{Map}
use Rattle.fault_line.specs.Told.{told}
use Rattle.map_report.specs.Escapes.{shown}
use Rattle.plan_report.proofs.Once.{row_one}
use Rattle.plancheck.specs.declared.make.Make.{Make}
use Rattle.plancheck.specs.Blanks.{Parts}
use Rattle.plancheck.specs.Letters.{Spells}
use Rattle.plancheck.specs.Makes.{entries_of}
use Rattle.plancheck.specs.Materials.{materials}
use Rattle.plancheck.specs.Names.{make_name}
use Rattle.plancheck.specs.Outcomes.{RowLines, pressed, stopped, ShowLine, shows, bare, nameless, misspelt}
use Rattle.plancheck.specs.Replies.{
  question,
  MapLine,
  admitted,
  refused,
  LotsLine,
  listed,
  wide,
  unread,
  CodeLine,
  coded,
}
use Rattle.plancheck.specs.Stores.{Store}
use Rattle.plancheck.proofs.Alike.{Alike, entries_alike, all_alike, first_alike}
use Rattle.plancheck.proofs.Reasons.{all_first, first_one}
use Rattle.plancheck.proofs.Unique.{parts_one, parts_clear, numbers_one, code_one, spells_one}
use Rattle.plancheck.proofs.Called.{make_one}

-- one map of a text
read_maps : (text : List ℕ) (m n : Map) → ReadExactly text (Ok m) → ReadExactly text (Ok n) →
    places m ≡ places n
read_maps text m n h k =
    (h.one_map (timers_of m) (timers_of n) (places m) (places n) (h.derived m refl) (k.derived n refl)).1

-- a text that is a map has no fault
read_apart : (text : List ℕ) (m : Map) (f : Fault) → ReadExactly text (Ok m) → ReadExactly text (Err f) → ⊥
read_apart text m f h k =
    let x = k.admitted (timers_of m) (places m) (h.derived m refl) in
    let z : ◌≡◌ {A = ℕ} 0 1 = cc x.1 in
    omega arith

module _ (k l : Store) (s : Alike k l) where
  -- a map is kept in one way
  pub map_one : (text x y : List ℕ) (a b : Store) → MapLine k text x a → MapLine l text y b →
      (x ≡ y) × Alike a b
  map_one text x y a b (admitted h) (admitted j) =
      (refl, record { map = read_maps text _ _ h j; width = s.width; lots = s.lots; code = s.code })
  map_one text x y a b (admitted h) (refused j) = absurd (read_apart text _ _ h j)
  map_one text x y a b (refused h) (admitted j) = absurd (read_apart text _ _ j h)
  map_one text x y a b (refused h) (refused j) =
      (ap told (h.one_fault _ _ (h.blamed _ refl) (j.blamed _ refl)), s)

  -- so are lots
  pub lots_one : (text x y : List ℕ) (a b : Store) → LotsLine k text x a → LotsLine l text y b →
      (x ≡ y) × Alike a b
  lots_one text x y a b (listed w ns h i) (listed v ms j q) =
      let same = numbers_one text (w ∷ ns) (v ∷ ms) h j in
      (refl, record { map = s.map; width = cc same; lots = cc same; code = s.code })
  lots_one text x y a b (listed w ns h i) (wide v ms j q) =
      let same = numbers_one text (w ∷ ns) (v ∷ ms) h j in
      let first : w ≡ v = cc same in
      absurd (omega arith)
  lots_one text x y a b (listed w ns h i) (unread none) = absurd (none (w ∷ ns) h)
  lots_one text x y a b (wide w ns h i) (listed v ms j q) =
      let same = numbers_one text (w ∷ ns) (v ∷ ms) h j in
      let first : w ≡ v = cc same in
      absurd (omega arith)
  lots_one text x y a b (wide w ns h i) (wide v ms j q) = (refl, s)
  lots_one text x y a b (wide w ns h i) (unread none) = (refl, s)
  lots_one text x y a b (unread none) (listed v ms j q) = absurd (none (v ∷ ms) j)
  lots_one text x y a b (unread none) (wide v ms j q) = (refl, s)
  lots_one text x y a b (unread none) (unread nothing) = (refl, s)

  -- so is a code
  pub keys_one : (text x y : List ℕ) (a b : Store) → CodeLine k text x a → CodeLine l text y b →
      (x ≡ y) × Alike a b
  keys_one text x y a b (coded ns h) (coded ms j) =
      (refl, record { map = s.map; width = s.width; lots = s.lots; code = code_one text ns ms h j })

  -- a row gives one text
  lines_one : (m : Make) (ss : List Symbol) (x y : List ℕ) → RowLines k m ss x → RowLines l m ss y → x ≡ y
  lines_one m ss x y (pressed h t) (pressed j u) =
      row_one (entries_of k m) (entries_of l m) ss x y (λ e. (
        (entries_alike k l s m e).1,
        (entries_alike k l s m e).0,
      )) t u
  lines_one m ss x y (pressed h t) (stopped r j u) =
      absurd (all_first l (materials m) r y (all_alike k l s (materials m) h) j u)
  lines_one m ss x y (stopped r h t) (pressed j u) =
      absurd (all_first l (materials m) r x j (first_alike k l s (materials m) r h) t)
  lines_one m ss x y (stopped r h t) (stopped q j u) =
      first_one l (materials m) r q x y (first_alike k l s (materials m) r h) j t u

-- a line shows a plan, or it does not
data ShowView (k : Store) (all text x : List ℕ) : Type 0 where
  seen : (m : Make) (row bs : List ℕ) (ss : List Symbol) → Parts text (make_name m) row → Spells row ss →
      RowLines k m ss bs → x ≡ shown all ++ 10 ∷ bs → ShowView k all text x
  unseen : ((m : Make) (row : List ℕ) (ss : List Symbol) → Parts text (make_name m) row → Spells row ss → ⊥) →
      x ≡ question → ShowView k all text x

show_view : (k : Store) (all text x : List ℕ) → ShowLine k all text x → ShowView k all text x
show_view k all text x (shows p h r) = seen _ _ _ _ p h r refl
show_view k all text x (bare c) = unseen (λ m row ss p h. parts_clear text (make_name m) row p c) refl
show_view k all text x (nameless p none) =
    unseen (λ m row ss q h. none m (parts_one text _ (make_name m) _ row p q).0) refl
show_view k all text x (misspelt p none) =
    unseen (λ m row ss q h. none ss (subst (λ (r : List ℕ). Spells r ss)
    (sym (parts_one text _ (make_name m) _ row p q).1) h)) refl

module _ (k l : Store) (s : Alike k l) (all text x y : List ℕ) where
  view_one : ShowView k all text x → ShowView l all text y → x ≡ y
  view_one (seen m row bs ss p h r e) (seen n keys cs ts q j t f) =
      let parts = parts_one text (make_name m) (make_name n) row keys p q in
      let same = make_one m n parts.0 in
      let spelt = spells_one keys ss ts (subst (λ (z : List ℕ). Spells z ss) parts.1 h) j in
      let moved = subst (λ (z : List Symbol). RowLines k n z bs) spelt
      (subst (λ (z : Make). RowLines k z ss bs) same r) in
      let lines = lines_one k l s n ts bs cs moved t in
      cc (e, f, lines)
  view_one (seen m row bs ss p h r e) (unseen none f) = absurd (none m row ss p h)
  view_one (unseen none e) (seen n keys cs ts q j t f) = absurd (none n keys ts q j)
  view_one (unseen none e) (unseen nothing f) = e ∙ sym f

  -- a plan is shown in one way
  pub show_one : ShowLine k all text x → ShowLine l all text y → x ≡ y
  show_one h j = view_one (show_view k all text x h) (show_view l all text y j)
