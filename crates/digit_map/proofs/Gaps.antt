-- Runs of blanks, and the next token of a text. Assumes nothing.
use Rattle.std.proofs.Common.{◌≡◌, ℕ, suc, ◌+◌, ◌<◌, ◌≤◌, Bool, true, false, cond, not, ◌&&◌, ◌||◌, eqb, List, [], ◌∷◌, length, length-drop, get_or, drop, find, Some, None, Option, MatchOption, sym, refl, ap, ◌∙◌, inl, inr, arith}
use Rattle.std.proofs.Math.Numerals.{one-add}
use Rattle.std.specs.List.{prefix_len}
use Rattle.std.proofs.lemmas.List.{at_drop_more, at_drop_all, get_or-drop, drop-drop}
use Rattle.std.proofs.lemmas.List.Sums.{prefix_len-le-length, prefix_len_stops}
use Rattle.std.proofs.lemmas.Bool.{cond-true, cond-false, eqb-true, or_cases, or_parts}
use Rattle.digit_map.specs.declared.token.Token.TheVariants.{Byte, Gap, End}
use Rattle.digit_map.specs.declared.token.Cursor.{Cursor}
use Rattle.digit_map.specs.Bytes.{blank, joint, field_letter}
use Rattle.digit_map.specs.Tokens.{joint_ahead, colon_ahead, token, tokens, rest, Next}
use Rattle.digit_map.specs.Skips.{may_stand, past_blanks_lem}

-- a search for the first byte that is no blank
abbrev pub solid : List ℕ → Option ℕ
solid = find (λ b. not (blank b))

abbrev by_solid : (ℕ → Bool) → Option ℕ → Bool
by_solid p None = false
by_solid p (Some b) = p b

-- a test of the first such byte, by what `is_some_and` answers
some_and : (p : ℕ → Bool) (Q : ℕ → Type 0) (r : Bool) (o : Option ℕ) → MatchOption o (r ≡ false) Q →
    ((b : ℕ) → Q b → r ≡ p b) → r ≡ by_solid p o
some_and p Q r None h same = h
some_and p Q r (Some b) h same = same b h

find_by : (p : ℕ → Bool) (x : Bool) (b : ℕ) (o : Option ℕ) →
    by_solid p (cond (not x) (Some b) o) ≡ cond x (by_solid p o) (p b)
find_by p true b o = refl
find_by p false b o = refl

-- a look ahead, as the test of the first byte that is no blank
module _ (p : ℕ → Bool) (ahead : List ℕ → Bool) (none : false ≡ ahead [])
    (more : (b : ℕ) (bs : List ℕ) → cond (blank b) (ahead bs) (p b) ≡ ahead (b ∷ bs)) where
  by_first : (xs : List ℕ) → by_solid p (solid xs) ≡ ahead xs
  by_first [] = none
  by_first (b ∷ bs) =
      find_by p (blank b) b (solid bs) ∙ (ap (λ v. cond (blank b) v (p b)) (by_first bs) ∙ more b bs)

  pub looks_ahead : (Q : ℕ → Type 0) (r : Bool) (o : Option ℕ) (xs : List ℕ) → o ≡ solid xs →
      MatchOption o (r ≡ false) Q → ((b : ℕ) → Q b → r ≡ p b) → r ≡ ahead xs
  looks_ahead Q r o xs e h same = some_and p Q r o h same ∙ (ap (by_solid p) e ∙ by_first xs)

-- what stands behind the blanks that a text begins with
abbrev Passed : List ℕ → ℕ → Type 0
Passed xs k = (o : ℕ) → tokens true o xs ≡ tokens true (o + k) (drop k xs)

passed_by : (b : ℕ) (bs : List ℕ) (x : Bool) → blank b ≡ x → Passed bs (prefix_len blank bs) →
    Passed (b ∷ bs) (cond x (1 + prefix_len blank bs) 0)
passed_by b bs true e h o =
    let k = prefix_len blank bs in
    let z : o + 1 + k ≡ o + suc k = omega arith in
    rw one-add (cond-true _ _ _ e ∙ (h (o + 1) ∙ ap (λ n. tokens true n (drop k bs)) z))
passed_by b bs false e h o = ap (λ n. tokens true n (b ∷ bs)) (omega arith)

passed : (xs : List ℕ) → Passed xs (prefix_len blank xs)
passed [] o = ap (λ n. tokens true n []) (omega arith)
passed (b ∷ bs) o =
    passed_by b bs (blank b) refl (passed bs) o

-- behind the blanks that a text begins with stands the same joint
joint_by : (b : ℕ) (bs : List ℕ) (x : Bool) → blank b ≡ x
    → joint_ahead (drop (prefix_len blank bs) bs) ≡ joint_ahead bs
    → joint_ahead (drop (cond x (1 + prefix_len blank bs) 0) (b ∷ bs)) ≡ cond x (joint_ahead bs) (joint b)
joint_by b bs true e h = rw one-add h
joint_by b bs false e h = cond-false _ _ _ e

pub joint_behind : (xs : List ℕ) → joint_ahead (drop (prefix_len blank xs) xs) ≡ joint_ahead xs
joint_behind [] = refl
joint_behind (b ∷ bs) = joint_by b bs (blank b) refl (joint_behind bs)

-- no blank at n
module _ (text : List ℕ) (n : ℕ) (h : n < length text) (e : blank (get_or text n 0) ≡ false) where
  token_here : (j : Bool) (o : ℕ)
      → tokens j (o + n) (drop n text)
      ≡ token (get_or text n 0) (drop (n + 1) text) (o + n)
      ∷ tokens (joint (get_or text n 0)) (o + (n + 1)) (drop (n + 1) text)
  token_here j o =
      let b = get_or text n 0 in
      let bs = drop (n + 1) text in
      at_drop_more (tokens j (o + n)) text n 0 h
      ∙ (cond-false _ _ _ e ∙ ap (λ k. token b bs (o + n) ∷ tokens (joint b) k bs) (omega arith))

same_ways : {A : Type 0} (x j k l : Bool) (p q r : A) → (j || cond x k l) ≡ true
    → cond x (cond (j || k) p q) r ≡ cond x p r
same_ways true j k l p q r e = cond-true _ _ _ e
same_ways false j k l p q r e = refl

-- blanks that may stand here
loosen : (j : Bool) (o : ℕ) (xs : List ℕ) → (j || joint_ahead xs) ≡ true → tokens j o xs ≡ tokens true o xs
loosen j o [] e = refl
loosen j o (b ∷ bs) e = same_ways (blank b) j (joint_ahead bs) (joint b) _ _ _ e

-- a run of blanks that may not
gap_by : (o b : ℕ) (bs : List ℕ) (x : Bool) → blank b ≡ x →
    eqb (cond x (1 + prefix_len blank bs) 0) 0 ≡ false → cond x (joint_ahead bs) (joint b) ≡ false →
    tokens false o (b ∷ bs) ≡ Gap o ∷ []
gap_by o b bs true e f g = cond-true _ _ _ e ∙ cond-false _ _ _ g
gap_by o b bs false e f g = cc

gap_here : (o : ℕ) (xs : List ℕ) → eqb (prefix_len blank xs) 0 ≡ false → joint_ahead xs ≡ false →
    tokens false o xs ≡ Gap o ∷ []
gap_here o [] f g = cc
gap_here o (b ∷ bs) f g = gap_by o b bs (blank b) refl f g

refused : (t : Bool) (v : ℕ) → None ≡ cond t (Some v) None → t ≡ false
refused true v e = cc
refused false v e = refl

taken : (t : Bool) (n v : ℕ) → Some n ≡ cond t (Some v) None → (t ≡ true) × (n ≡ v)
taken true n v e = (refl, cc)
taken false n v e = cc

-- the tokens from a cursor on are those from n on, where no blank stands
pub record Reaches (text : List ℕ) (base : ℕ) (c : Cursor) (n : ℕ) : Type 0 where
  pub low : c.at ≤ n
  pub high : n ≤ length text
  pub stops : n < length text → blank (get_or text n 0) ≡ false
  pub loose : Bool
  pub is : rest text base c ≡ tokens loose (base + n) (drop n text)

abbrev ahead : List ℕ → Cursor → List ℕ
ahead text c = drop c.at text

abbrev blanks : List ℕ → Cursor → ℕ
blanks text c = prefix_len blank (ahead text c)

module _ {text : List ℕ} {c : Cursor} (base : ℕ) (high : c.at ≤ length text) where
  pub next_gap : None ≡ past_blanks_lem text c → Next text base c (Gap (base + c.at)) c
  next_gap e =
      let p = or_parts (eqb (blanks text c) 0) (c.loose || joint_ahead (ahead text c)) (refused _ _ e) in
      let q = or_parts c.loose (joint_ahead (ahead text c)) p.1 in
      record {
        moves = tt;
        loosens = tt;
        high = high;
        is = ap (λ j. tokens j (base + c.at) (ahead text c)) q.0
            ∙ gap_here (base + c.at) (ahead text c) p.0 q.1;
      }

  reaches_by : (j : Bool)
      → rest text base c ≡ tokens j (base + (c.at + blanks text c)) (drop (c.at + blanks text c) text) →
      Reaches text base c (c.at + blanks text c)
  reaches_by j e =
      let l = length-drop c.at text in
      record {
        low = omega arith;
        high = omega (arith, prefix_len-le-length blank (ahead text c));
        stops = λ h. sym (ap blank (get_or-drop c.at text (blanks text c) 0))
            ∙ prefix_len_stops blank (ahead text c) 0 (omega arith);
        loose = j;
        is = e;
      }

  near : eqb (blanks text c) 0 ≡ true → Reaches text base c (c.at + blanks text c)
  near h =
      let z = eqb-true _ _ h in
      let e : c.at ≡ c.at + blanks text c = omega arith in
      reaches_by c.loose (ap (λ k. tokens c.loose (base + k) (drop k text)) e)

  far : (c.loose || joint_ahead (ahead text c)) ≡ true → Reaches text base c (c.at + blanks text c)
  far h =
      let e : base + c.at + blanks text c ≡ base + (c.at + blanks text c) = omega arith in
      reaches_by true
      (loosen c.loose (base + c.at) (ahead text c) h
      ∙ (passed (ahead text c) (base + c.at)
      ∙ (ap (λ k. tokens true k (drop (blanks text c) (ahead text c))) e
      ∙ ap (tokens true (base + (c.at + blanks text c))) (drop-drop (blanks text c) c.at text))))

  pub reaches : {n : ℕ} → Some n ≡ past_blanks_lem text c → Reaches text base c n
  reaches {n} e =
      let t = taken (may_stand (ahead text c) c.loose) n (c.at + blanks text c) e in
      rw t.1 (elim (or_cases _ _ t.0) [ inl h ↦ near h | inr h ↦ far h ])

module _ {text : List ℕ} {n base : ℕ} {c : Cursor} (r : Reaches text base c n) where
  pub next_end : {j : Bool} → length text ≤ n
      → Next text base c (End (base + n)) (record { at = n; loose = j })
  next_end h =
      record {
        moves = tt;
        loosens = tt;
        high = r.high;
        is = r.is ∙ at_drop_all (tokens r.loose (base + n)) text n h;
      }

  pub next_byte : {b : ℕ} {f j : Bool} → n < length text → b ≡ get_or text n 0
      → f ≡ (field_letter b && colon_ahead (drop (n + 1) text)) → j ≡ joint b
      → Next text base c (Byte b f (base + n)) (record { at = n + 1; loose = j })
  next_byte h e p q =
      record {
        moves = let l = r.low in omega arith;
        loosens = q;
        high = omega arith;
        is = rw (p, q, e) (r.is ∙ token_here text n h (r.stops h) r.loose base);
      }
