-- A row that is read symbol by symbol. Assumes nothing.
use Rattle.std.proofs.Common.{◌≡◌, ℕ, ◌<◌, Bool, true, false, ◌⊎◌, eqb, List, [], ◌∷◌, ◌++◌, length, Option, sym, ap, ◌∙◌, subst, inl, inr, append_assoc, arith, MatchOption, ◌≢◌}
use Rattle.keypad.specs.declared.key.Symbol.{Symbol}
use Rattle.keypad.specs.declared.key.Symbol.TheVariants.{Plain, Long}
use Rattle.keypad.specs.Letters.{letter_of, symbol_name}
use Rattle.std.proofs.ByRecursion.{All-push}
use Rattle.std.proofs.lemmas.List.{append-nil, nil_from_length}
use Rattle.std.proofs.lemmas.Bool.Decides.{nat_tests, eqb_tells}
use Rattle.std.specs.Bool.{then_some}
use Rattle.std.specs.List.{AllByRecursion}
use Rattle.plancheck.specs.Letters.{spelled, OfKey, Begins, NoSymbol, Spells}

-- a Z is the letter of no key
pub key_no_z : (k : ℕ) → k < 16 → letter_of k ≡ 90 → ⊥
key_no_z k small e = grind (arith, nat_tests)

-- a symbol has one letter or two
pub begins_shorter : (bs : List ℕ) (s : Symbol) (rest : List ℕ) → Begins bs s rest → length rest < length bs
begins_shorter bs (Plain k) rest h = let e = ap length h.letters in omega arith
begins_shorter bs (Long k) rest h = let e = ap length h.letters in omega arith

-- no text begins with two symbols
begins_one : (bs : List ℕ) (s t : Symbol) (rest more : List ℕ) → Begins bs s rest → Begins bs t more → more ≡ rest
begins_one bs (Plain j) (Plain k) rest more h l = cc (h.letters, l.letters)
begins_one bs (Plain j) (Long k) rest more h l = absurd (key_no_z j h.key (cc (h.letters, l.letters)))
begins_one bs (Long j) (Plain k) rest more h l = absurd (key_no_z k l.key (cc (h.letters, l.letters)))
begins_one bs (Long j) (Long k) rest more h l = cc (h.letters, l.letters)

-- a row and one symbol more
spelled_more : (ss : List Symbol) (s : Symbol) → spelled (ss ++ s ∷ []) ≡ spelled ss ++ symbol_name s
spelled_more [] s = append-nil (symbol_name s)
spelled_more (x ∷ ss) s =
    ap (λ (bs : List ℕ). symbol_name x ++ bs) (spelled_more ss s) ∙ sym (append_assoc (symbol_name x) (spelled ss)
    (symbol_name s))

-- the symbols behind the first
spelled_behind : (bs : List ℕ) (s : Symbol) (rest : List ℕ) → Begins bs s rest → (ss : List Symbol) →
    Spells bs ss → (ts : List Symbol) × Spells rest ts
spelled_behind bs s rest h [] k =
    let shorter = begins_shorter bs s rest h in let e = ap length k.letters in absurd (omega arith)
spelled_behind bs s rest h (t ∷ ts) k =
    let first : Begins bs t (spelled ts) = record { key = k.keys.0; letters = k.letters } in
    (ts, record { letters = sym (begins_one bs s t rest (spelled ts) h first); keys = k.keys.1 })

-- nothing is spelled by what begins with no symbol
spelled_none : (bs : List ℕ) → NoSymbol bs → (bs ≡ [] → ⊥) → (ss : List Symbol) → Spells bs ss → ⊥
spelled_none bs none some [] k = some k.letters
spelled_none bs none some (t ∷ ts) k = none t (spelled ts) (record { key = k.keys.0; letters = k.letters })

module _ (text : List ℕ) where
  -- the text before rest has been read as a row
  pub record RowReading (rest : List ℕ) (row : List Symbol) : Type 0 where
    pub letters : text ≡ spelled row ++ rest
    pub keys : AllByRecursion OfKey row
    pub complete : (ss : List Symbol) → Spells text ss → (ts : List Symbol) × Spells rest ts

  -- a symbol is read
  pub reading_symbol : (rest : List ℕ) (row : List Symbol) (s : Symbol) (after : List ℕ) → Begins rest s after →
      RowReading rest row → RowReading after (row ++ s ∷ [])
  reading_symbol rest row s after b h = record {
    letters = h.letters ∙ ap (λ (bs : List ℕ). spelled row ++ bs) b.letters
        ∙ sym (append_assoc (spelled row) (symbol_name s) after)
        ∙ ap (λ (bs : List ℕ). bs ++ after) (sym (spelled_more row s));
    keys = All-push OfKey row s h.keys b.key;
    complete = λ ss k. let x = h.complete ss k in spelled_behind rest s after b x.0 x.1;
  }

  reading_all : (rest : List ℕ) (row : List Symbol) → rest ≡ [] → RowReading rest row → Spells text row
  reading_all rest row e h = record {
    letters = h.letters ∙ ap (λ (bs : List ℕ). spelled row ++ bs) e ∙ append-nil (spelled row);
    keys = h.keys;
  }

  reading_stuck : (rest : List ℕ) (row : List Symbol) → NoSymbol rest → (rest ≡ [] → ⊥) →
      RowReading rest row → (ss : List Symbol) → Spells text ss → ⊥
  reading_stuck rest row none some h ss k = let x = h.complete ss k in spelled_none rest none some x.0 x.1

  module _ {V : Type 0} (items : V → List Symbol) (rest : List ℕ) (v : V) where
    reading_tested : (t : Bool) → ((t ≡ true) × (length rest ≡ 0)) ⊎ ((t ≡ false) × (length rest ≢ 0)) →
        NoSymbol rest → RowReading rest (items v) →
        MatchOption (then_some t v) ((ss : List Symbol) → Spells text ss → ⊥) (λ w. Spells text (items w))
    reading_tested true (inl x) none h = reading_all rest (items v) (nil_from_length rest x.1) h
    reading_tested true (inr x) none h = absurd (let z : ◌≡◌ {A = ℕ} 0 1 = cc x.0 in omega arith)
    reading_tested false (inl x) none h = absurd (let z : ◌≡◌ {A = ℕ} 0 1 = cc x.0 in omega arith)
    reading_tested false (inr x) none h =
        reading_stuck rest (items v) none (λ e. x.1 (ap length e)) h

    -- a row is read where nothing is left that begins with no symbol
    pub reading_end : (t : Bool) (o : Option V) → o ≡ then_some t v → t ≡ eqb (length rest) 0 →
        NoSymbol rest → RowReading rest (items v) →
        MatchOption o ((ss : List Symbol) → Spells text ss → ⊥) (λ w. Spells text (items w))
    reading_end t o e f none h =
        subst (λ (p : Option V). MatchOption p ((ss : List Symbol) → Spells text ss → ⊥) (λ w.
        Spells text (items w))) (sym e)
        (reading_tested t (subst (λ (b : Bool). ((b ≡ true) × (length rest ≡ 0))
        ⊎ ((b ≡ false) × (length rest ≢ 0))) (sym f) (eqb_tells (length rest) 0)) none h)
