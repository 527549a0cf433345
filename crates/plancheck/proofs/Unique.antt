-- A text says one thing only. Assumes nothing.
use Rattle.std.proofs.Common.{◌≡◌, ℕ, ◌+◌, ◌<◌, List, [], ◌∷◌, ◌++◌, length, get_or, sym, refl, ap, ◌∙◌, subst, inl, inr, arith}
use Rattle.keypad.specs.declared.key.Symbol.{Symbol}
use Rattle.keypad.specs.declared.key.Symbol.TheVariants.{Plain, Long}
use Rattle.keypad.specs.Letters.{letter_of}
use Rattle.std.proofs.ByRecursion.{All-from_get_or, All-weaker}
use Rattle.std.proofs.lemmas.List.{get_or_append_left, get_or_at, length-append}
use Rattle.std.proofs.lemmas.Bool.Decides.{nat_tests}
use Rattle.std.specs.List.{AllZip, AllByRecursion}
use Rattle.plancheck.specs.Blanks.{Clear, Parts}
use Rattle.plancheck.specs.Letters.{CodeLetter, spelled, OfKey, Spells}
use Rattle.plancheck.specs.Numbers.{Digit, Decimal, Numbers}
use Rattle.plancheck.proofs.Rows.{key_no_z}

-- no blank
abbrev NoBlank : ℕ → Type 0
NoBlank b = b ≡ 32 → ⊥

-- a text is parted at its first blank in one way
split_one : (w v r q : List ℕ) → AllByRecursion NoBlank w → AllByRecursion NoBlank v →
    w ++ 32 ∷ r ≡ v ++ 32 ∷ q → (w ≡ v) × (r ≡ q)
split_one [] [] r q h k e = (refl, cc)
split_one [] (c ∷ v) r q h k e = absurd (k.0 (cc))
split_one (b ∷ w) [] r q h k e = absurd (h.0 (cc))
split_one (b ∷ w) (c ∷ v) r q h k e =
    let first : b ≡ c = cc in
    let behind : w ++ 32 ∷ r ≡ v ++ 32 ∷ q = cc in
    let rest = split_one w v r q h.1 k.1 behind in
    (cc (first, rest.0), rest.1)

parts_blankless : (text w r : List ℕ) → Parts text w r → AllByRecursion NoBlank w
parts_blankless text w r h =
    All-from_get_or NoBlank w 0 (λ i inside e. h.first i inside (ap (λ (bs : List ℕ). get_or bs i 0) h.joined
    ∙ get_or_append_left w (32 ∷ r) 0 i inside ∙ e))

pub parts_one : (text w v r q : List ℕ) → Parts text w r → Parts text v q → (w ≡ v) × (r ≡ q)
parts_one text w v r q h k =
    split_one w v r q (parts_blankless text w r h) (parts_blankless text v q k) (sym h.joined ∙ k.joined)

-- a text without a blank is not parted
pub parts_clear : (text w r : List ℕ) → Parts text w r → Clear text (length text) → ⊥
parts_clear text w r h clear =
    let long : length text ≡ length w + length (32 ∷ r) = ap length h.joined ∙ length-append w (32 ∷ r) in
    clear (length w) (omega arith)
    (ap (λ (bs : List ℕ). get_or bs (length w) 0) h.joined ∙ get_or_at w 32 r 0 (length w) refl)

-- digits are no blanks
digits_blankless : (w : List ℕ) → AllByRecursion Digit w → AllByRecursion NoBlank w
digits_blankless w h = All-weaker Digit NoBlank (λ b d e. omega (arith, d.0, e)) w h

digits_unparted : (w r : List ℕ) → AllByRecursion Digit (w ++ 32 ∷ r) → ⊥
digits_unparted [] r h = omega (arith, h.0.0)
digits_unparted (b ∷ w) r h = digits_unparted w r h.1

-- one list of numbers
pub numbers_one : (bs ns ms : List ℕ) → Numbers bs ns → Numbers bs ms → ns ≡ ms
numbers_one bs [] ms h k = absurd h
numbers_one bs (n ∷ []) [] h k = absurd k
numbers_one bs (n ∷ []) (m ∷ []) h k = let same : n ≡ m = sym h.value ∙ k.value in cc same
numbers_one bs (n ∷ []) (m ∷ j ∷ js) h k =
    absurd (digits_unparted k.0 k.1 (subst (AllByRecursion Digit) k.4 h.digits))
numbers_one bs (n ∷ i ∷ is) [] h k = absurd k
numbers_one bs (n ∷ i ∷ is) (m ∷ []) h k =
    absurd (digits_unparted h.0 h.1 (subst (AllByRecursion Digit) h.4 k.digits))
numbers_one bs (n ∷ i ∷ is) (m ∷ j ∷ js) h k =
    let parts = split_one h.0 k.0 h.1 k.1 (digits_blankless h.0 h.2.digits)
    (digits_blankless k.0 k.2.digits) (sym h.4 ∙ k.4) in
    let word = subst (λ (w : List ℕ). Decimal w n) parts.0 h.2 in
    let first : n ≡ m = sym word.value ∙ k.2.value in
    let rest = numbers_one k.1 (i ∷ is) (j ∷ js)
    (subst (λ (r : List ℕ). Numbers r (i ∷ is)) parts.1 h.3) k.3 in
    cc (first, rest)

-- one key for a letter
key_one : (j k : ℕ) → j < 16 → k < 16 → letter_of j ≡ letter_of k → j ≡ k
key_one j k x y e = grind (arith, nat_tests)

letter_one : (b n m : ℕ) → CodeLetter b n → CodeLetter b m → n ≡ m
letter_one b n m (inl h) (inl k) = key_one n m h.0 k.0 (sym h.1 ∙ k.1)
letter_one b n m (inl h) (inr k) = absurd (k.0 n h)
letter_one b n m (inr h) (inl k) = absurd (h.0 m k)
letter_one b n m (inr h) (inr k) = h.1 ∙ sym k.1

-- one code
pub code_one : (bs ns ms : List ℕ) → AllZip CodeLetter bs ns → AllZip CodeLetter bs ms → ns ≡ ms
code_one [] [] [] h k = refl
code_one [] [] (m ∷ ms) h k = absurd k
code_one [] (n ∷ ns) ms h k = absurd h
code_one (b ∷ bs) [] ms h k = absurd h
code_one (b ∷ bs) (n ∷ ns) [] h k = absurd k
code_one (b ∷ bs) (n ∷ ns) (m ∷ ms) h k =
    let first = letter_one b n m h.0 k.0 in
    let rest = code_one bs ns ms h.1 k.1 in
    cc (first, rest)

no_nil : (b : ℕ) (bs : List ℕ) → [] ≡ b ∷ bs → ⊥
no_nil b bs e = let z : ◌≡◌ {A = ℕ} 0 1 = cc in omega arith

-- one row
row_one : (ss ts : List Symbol) → AllByRecursion OfKey ss → AllByRecursion OfKey ts → spelled ss ≡ spelled ts →
    ss ≡ ts
row_one [] [] h k e = refl
row_one [] (Plain j ∷ ts) h k e = absurd (no_nil _ _ e)
row_one [] (Long j ∷ ts) h k e = absurd (no_nil _ _ e)
row_one (Plain i ∷ ss) [] h k e = absurd (no_nil _ _ (sym e))
row_one (Long i ∷ ss) [] h k e = absurd (no_nil _ _ (sym e))
row_one (Plain i ∷ ss) (Plain j ∷ ts) h k e =
    let key = key_one i j h.0 k.0 (cc) in
    let behind : spelled ss ≡ spelled ts = cc in
    let rest = row_one ss ts h.1 k.1 behind in
    cc (key, rest)
row_one (Plain i ∷ ss) (Long j ∷ ts) h k e = absurd (key_no_z i h.0 (cc))
row_one (Long i ∷ ss) (Plain j ∷ ts) h k e = absurd (key_no_z j k.0 (cc))
row_one (Long i ∷ ss) (Long j ∷ ts) h k e =
    let key = key_one i j h.0 k.0 (cc) in
    let behind : spelled ss ≡ spelled ts = cc in
    let rest = row_one ss ts h.1 k.1 behind in
    cc (key, rest)

pub spells_one : (bs : List ℕ) (ss ts : List Symbol) → Spells bs ss → Spells bs ts → ss ≡ ts
spells_one bs ss ts h k = row_one ss ts h.keys k.keys (sym h.letters ∙ k.letters)
