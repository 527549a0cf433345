-- Numbers, digit by digit and word by word. Assumes nothing.
use Rattle.std.proofs.Common.{◌≡◌, ℕ, ◌+◌, ◌-◌, ◌*◌, ◌^◌, ◌<◌, ◌≤◌, true, false, ◌⊎◌, eqb, List, [], ◌∷◌, ◌++◌, length, get_or, take, drop, sym, refl, ap, ◌∙◌, subst, inl, inr, arith, ◌≢◌}
use Rattle.std.proofs.ByRecursion.{All-push, All-get_or, All-weaker}
use Rattle.std.proofs.lemmas.List.{take_more, take_all, drop_more, take-append-drop}
use Rattle.std.proofs.lemmas.List.Elements.{All-from_recursion}
use Rattle.std.proofs.lemmas.List.Splits.{slice_split_none, slice_split_at, length-slice_split}
use Rattle.std.proofs.lemmas.Slice.Zip.{AllZip-long}
use Rattle.std.proofs.lemmas.Bool.Decides.{nat_tests, eqb_tells}
use Rattle.std.specs.List.{AllByRecursion, AllZip, slice_split}
use Rattle.plancheck.specs.Numbers.{Digit, Extends, written, Decimal, Numbers}

-- more digits make no number smaller
written_grows : (n : ℕ) (w : List ℕ) → n ≤ written n w
written_grows n [] = omega arith
written_grows n (b ∷ w) = let h = written_grows (n * 10 + (b - 48)) w in omega arith

written_append : (n : ℕ) (v w : List ℕ) → written n (v ++ w) ≡ written (written n v) w
written_append n [] w = refl
written_append n (b ∷ v) w = written_append (n * 10 + (b - 48)) v w

module _ (word : List ℕ) where
  -- the first i letters of a word are the digits of n
  pub record WordReading (i n : ℕ) : Type 0 where
    pub digits : AllByRecursion Digit (take i word)
    pub value : written 0 (take i word) ≡ n
    pub fits : n < 2 ^ 32

  module _ (i n : ℕ) (inside : i < length word) where
    -- a digit more
    pub reading_digit : (m : ℕ) → Extends n (get_or word i 0) m → WordReading i n → WordReading (i + 1) m
    reading_digit m e h =
        let grown = take_more word i 0 inside in
        record {
          digits = subst (AllByRecursion Digit) (sym grown) (All-push Digit (take i word) (get_or word i 0)
              h.digits e.digit);
          value = ap (written 0) grown ∙ written_append 0 (take i word) (get_or word i 0 ∷ [])
              ∙ ap (λ k. k * 10 + (get_or word i 0 - 48)) h.value ∙ sym e.value;
          fits = e.fits;
        }

    -- a letter that is none, or one digit too much
    pub reading_refused : ((m : ℕ) → Extends n (get_or word i 0) m → ⊥) → WordReading i n → (m : ℕ) →
        Decimal word m → ⊥
    reading_refused none h m k =
        let b = get_or word i 0 in
        let whole : take i word ++ b ∷ drop (i + 1) word ≡ word =
        ap (λ (bs : List ℕ). take i word ++ bs) (sym (drop_more word i 0 inside))
        ∙ take-append-drop i word in
        let value : written (written 0 (take i word) * 10 + (b - 48)) (drop (i + 1) word) ≡ m =
        sym (written_append 0 (take i word) (b ∷ drop (i + 1) word)) ∙ ap (written 0) whole ∙ k.value in
        let value_here : written (n * 10 + (b - 48)) (drop (i + 1) word) ≡ m =
        ap (λ x. written (x * 10 + (b - 48)) (drop (i + 1) word)) (sym h.value) ∙ value in
        let grows = written_grows (n * 10 + (b - 48)) (drop (i + 1) word) in
        let fits : n * 10 + (b - 48) < 2 ^ 32 = omega (arith, grows, value_here, k.fits) in
        none (n * 10 + (b - 48))
        (record { digit = All-get_or Digit word i 0 inside k.digits; value = refl; fits = fits })

  -- all digits are read
  pub reading_word : (i n : ℕ) → 0 < length word → length word ≤ i → WordReading i n → Decimal word n
  reading_word i n some over h =
      let all = take_all i word over in
      record {
        some = some;
        digits = subst (AllByRecursion Digit) all h.digits;
        value = ap (written 0) (sym all) ∙ h.value;
        fits = h.fits;
      }

-- the words between the blanks of a text
abbrev pub words : List ℕ → List (List ℕ)
words bs = slice_split (λ b. eqb b 32) bs

abbrev NoBlank : ℕ → Type 0
NoBlank b = eqb b 32 ≡ false

digit_no_blank : (b : ℕ) → Digit b → NoBlank b
digit_no_blank b d = grind (arith, nat_tests)

digits_unparted : (w : List ℕ) → AllByRecursion Digit w → AllByRecursion NoBlank w
digits_unparted w h = All-weaker Digit NoBlank digit_no_blank w h

-- a text without blanks is one word
words_one : (text : List ℕ) → AllByRecursion NoBlank text → words text ≡ text ∷ []
words_one text h = slice_split_none (λ b. eqb b 32) text (All-from_recursion NoBlank text h)

-- the first word ends at the first blank
words_first : (text w r : List ℕ) → AllByRecursion NoBlank w → text ≡ w ++ 32 ∷ r → words text ≡ w ∷ words r
words_first text w r h e =
    ap words e ∙ slice_split_at (λ b. eqb b 32) w 32 r (All-from_recursion NoBlank w h) refl

-- each number is a word
pub numbers_words : (text ns : List ℕ) → Numbers text ns → AllZip Decimal (words text) ns
numbers_words text [] h = absurd h
numbers_words text (n ∷ []) h =
    subst (λ (ws : List (List ℕ)). AllZip Decimal ws (n ∷ []))
    (sym (words_one text (digits_unparted text h.digits))) (h, tt)
numbers_words text (n ∷ m ∷ ns) h =
    subst (λ (ws : List (List ℕ)). AllZip Decimal ws (n ∷ m ∷ ns))
    (sym (words_first text h.0 h.1 (digits_unparted h.0 h.2.digits) h.4))
    (h.2, numbers_words h.1 (m ∷ ns) h.3)

-- a text has a first blank, or none
abbrev Blanked : List ℕ → Type 0
Blanked text =
    AllByRecursion NoBlank text
    ⊎ ((w : List ℕ) × (r : List ℕ) × AllByRecursion NoBlank w × (text ≡ w ++ 32 ∷ r))

blanked_more : (b : ℕ) (bs : List ℕ) → ((eqb b 32 ≡ true) × (b ≡ 32)) ⊎ ((eqb b 32 ≡ false) × (b ≢ 32)) →
    Blanked bs → Blanked (b ∷ bs)
blanked_more b bs (inl x) h = inr ([], bs, tt, ap (λ c. c ∷ bs) x.1)
blanked_more b bs (inr x) (inl h) = inl (x.0, h)
blanked_more b bs (inr x) (inr h) = inr (b ∷ h.0, h.1, (x.0, h.2), ap (λ (cs : List ℕ). b ∷ cs) h.3)

blanked : (text : List ℕ) → Blanked text
blanked [] = inl tt
blanked (b ∷ bs) = blanked_more b bs (eqb_tells b 32) (blanked bs)

-- a text has a word at least
some_word : (text : List ℕ) → AllZip Decimal (words text) [] → ⊥
some_word text h =
    let long = length-slice_split (λ b. eqb b 32) text in
    let none = AllZip-long Decimal (words text) [] h in
    omega arith

one_word : (text : List ℕ) (n : ℕ) → Blanked text → AllZip Decimal (words text) (n ∷ []) → Decimal text n
one_word text n (inl none) h =
    let k = subst (λ (ws : List (List ℕ)). AllZip Decimal ws (n ∷ [])) (words_one text none) h in k.0
one_word text n (inr p) h =
    let k = subst (λ (ws : List (List ℕ)). AllZip Decimal ws (n ∷ [])) (words_first text p.0 p.1 p.2 p.3) h in
    absurd (some_word p.1 k.1)

more_words : (text : List ℕ) (n m : ℕ) (ns : List ℕ) →
    ((r : List ℕ) → AllZip Decimal (words r) (m ∷ ns) → Numbers r (m ∷ ns)) → Blanked text →
    AllZip Decimal (words text) (n ∷ m ∷ ns) → Numbers text (n ∷ m ∷ ns)
more_words text n m ns rest (inl none) h =
    let k = subst (λ (ws : List (List ℕ)). AllZip Decimal ws (n ∷ m ∷ ns)) (words_one text none) h in
    absurd k.1
more_words text n m ns rest (inr p) h =
    let k = subst (λ (ws : List (List ℕ)). AllZip Decimal ws (n ∷ m ∷ ns)) (words_first text p.0 p.1 p.2 p.3)
    h in
    (p.0, p.1, k.0, rest p.1 k.1, p.3)

-- words that are numbers make a text of numbers
words_numbers : (text ns : List ℕ) → AllZip Decimal (words text) ns → Numbers text ns
words_numbers text [] h = some_word text h
words_numbers text (n ∷ []) h = one_word text n (blanked text) h
words_numbers text (n ∷ m ∷ ns) h = more_words text n m ns (λ r k. words_numbers r (m ∷ ns) k) (blanked text) h

zip_push : (ws : List (List ℕ)) (ns : List ℕ) (w : List ℕ) (n : ℕ) → AllZip Decimal ws ns → Decimal w n →
    AllZip Decimal (ws ++ w ∷ []) (ns ++ n ∷ [])
zip_push [] [] w n h d = (d, tt)
zip_push [] (m ∷ ns) w n h d = absurd h
zip_push (v ∷ ws) [] w n h d = absurd h
zip_push (v ∷ ws) (m ∷ ns) w n h d = (h.0, zip_push ws ns w n h.1 d)

zip_at : (vs us : List (List ℕ)) (w : List ℕ) (ns : List ℕ) → AllZip Decimal (vs ++ w ∷ us) ns →
    (n : ℕ) × Decimal w n
zip_at [] us w [] h = absurd h
zip_at [] us w (n ∷ ns) h = (n, h.0)
zip_at (v ∷ vs) us w [] h = absurd h
zip_at (v ∷ vs) us w (n ∷ ns) h = zip_at vs us w ns h.1

module _ (text : List ℕ) (i : ℕ) (word : List ℕ) where
  module _ (turn : (i < length (words text)) × (word ≡ get_or (words text) i word)) where
    -- a word more
    pub words_more : (ns : List ℕ) (n : ℕ) → Decimal word n → AllZip Decimal (take i (words text)) ns →
        AllZip Decimal (take (i + 1) (words text)) (ns ++ n ∷ [])
    words_more ns n d h =
        let ws = words text in
        let grown : take (i + 1) ws ≡ take i ws ++ word ∷ [] =
        take_more ws i word turn.0 ∙ ap (λ (w : List ℕ). take i ws ++ w ∷ []) (sym turn.1) in
        subst (λ (vs : List (List ℕ)). AllZip Decimal vs (ns ++ n ∷ [])) (sym grown)
        (zip_push (take i ws) ns word n h d)

    -- a word that is no number
    pub words_refused : ((n : ℕ) → Decimal word n → ⊥) → (ns : List ℕ) → Numbers text ns → ⊥
    words_refused none ns h =
        let ws = words text in
        let here : ws ≡ take i ws ++ word ∷ drop (i + 1) ws =
        sym (take-append-drop i ws) ∙ ap (λ (us : List (List ℕ)). take i ws ++ us)
        (drop_more ws i word turn.0 ∙ ap (λ (w : List ℕ). w ∷ drop (i + 1) ws) (sym turn.1)) in
        let found = zip_at (take i ws) (drop (i + 1) ws) word ns
        (subst (λ (us : List (List ℕ)). AllZip Decimal us ns) here (numbers_words text ns h)) in
        none found.0 found.1

-- all words are read
pub words_all : (text ns : List ℕ) (i : ℕ) → length (words text) ≤ i →
    AllZip Decimal (take i (words text)) ns → Numbers text ns
words_all text ns i over h =
    words_numbers text ns
    (subst (λ (ws : List (List ℕ)). AllZip Decimal ws ns) (take_all i (words text) over) h)

-- the first number and those behind it
pub numbers_parts : (bs ns rest : List ℕ) (n : ℕ) → Numbers bs ns → n ≡ get_or ns 0 n → rest ≡ drop 1 ns →
    Numbers bs (n ∷ rest)
numbers_parts bs [] rest n h e f = absurd h
numbers_parts bs (m ∷ ms) rest n h e f =
    let same : n ∷ rest ≡ m ∷ ms = cc in
    subst (λ (ns : List ℕ). Numbers bs ns) (sym same) h
