-- The bytes of tokens, with no blanks between them, have those tokens again. Assumes nothing.
use Rattle.std.proofs.Common.{◌≡◌, ℕ, ◌+◌, Bool, true, false, cond, ◌&&◌, ◌||◌, eqb, List, [], ◌∷◌, ◌++◌, sym, refl, ap, ◌∙◌}
use Rattle.std.proofs.lemmas.Bool.{cond-false}
use Rattle.digit_map.specs.declared.token.Token.{Token}
use Rattle.digit_map.specs.declared.token.Token.TheVariants.{Byte, Gap, End}
use Rattle.digit_map.specs.Bytes.{blank, joint, field_letter}
use Rattle.digit_map.specs.Tokens.{joint_ahead, colon_ahead, token, tokens}
use Rattle.digit_map.specs.Continues.{bytes_of, placeless_all}
use Rattle.digit_map.proofs.Spaces.{either}

-- whether a colon is next, as far as the next token tells
abbrev pub Ahead : List Token → Bool → Type 0
Ahead [] a = Unit {0}
Ahead (Byte b c o ∷ ts) a = a ≡ eqb b 58
Ahead (Gap o ∷ ts) a = Unit {0}
Ahead (End o ∷ ts) a = Unit {0}

-- no byte is a blank, and each is told apart by whether a colon is next
abbrev pub Flagged : List Token → Type 0
Flagged [] = Unit {0}
Flagged (Byte b c o ∷ ts) =
    (blank b ≡ false) × ((a : Bool) × (c ≡ (field_letter b && a)) × Ahead ts a) × Flagged ts
Flagged (Gap o ∷ ts) = Flagged ts
Flagged (End o ∷ ts) = Flagged ts

ahead_by : (b : ℕ) (bs : List ℕ) (o : ℕ) → ((j : Bool) (o : ℕ) → Ahead (tokens j o bs) (colon_ahead bs)) →
    (x y : Bool) → Ahead (either b bs o x y) (cond x (colon_ahead bs) (eqb b 58))
ahead_by b bs o below true true = below true (o + 1)
ahead_by b bs o below true false = tt
ahead_by b bs o below false y = refl

tokens_ahead : (bs : List ℕ) (j : Bool) (o : ℕ) → Ahead (tokens j o bs) (colon_ahead bs)
tokens_ahead [] j o = tt
tokens_ahead (b ∷ bs) j o = ahead_by b bs o (tokens_ahead bs) (blank b) (j || joint_ahead bs)

flagged_by : (b : ℕ) (bs : List ℕ) (o : ℕ) → ((j : Bool) (o : ℕ) → Flagged (tokens j o bs)) →
    (x : Bool) → blank b ≡ x → (y : Bool) → Flagged (either b bs o x y)
flagged_by b bs o below true e true = below true (o + 1)
flagged_by b bs o below true e false = tt
flagged_by b bs o below false e y =
    (e, (colon_ahead bs, refl, tokens_ahead bs (joint b) (o + 1)), below (joint b) (o + 1))

pub tokens_flagged : (bs : List ℕ) (j : Bool) (o : ℕ) → Flagged (tokens j o bs)
tokens_flagged [] j o = tt
tokens_flagged (b ∷ bs) j o = flagged_by b bs o (tokens_flagged bs) (blank b) refl (j || joint_ahead bs)

-- tokens that their bytes have again where more bytes follow
abbrev pub Follows : List Token → List ℕ → Type 0
Follows [] more = Unit {0}
Follows (Byte b c o ∷ ts) more =
    (blank b ≡ false) × (c ≡ (field_letter b && colon_ahead (bytes_of ts ++ more))) × Follows ts more
Follows (Gap o ∷ ts) more = ⊥
Follows (End o ∷ ts) more = ⊥

-- the tokens of such bytes: those before what follows, and whence the rest is read
pub record Fronted (p : List Token) (more : List ℕ) (j : Bool) (o : ℕ) : Type 0 where
  pub front : List Token
  pub loose : Bool
  pub at : ℕ
  pub splits : tokens j o (bytes_of p ++ more) ≡ front ++ tokens loose at more
  pub alike : placeless_all front ≡ placeless_all p

pub fronted : (p : List Token) (more : List ℕ) (j : Bool) (o : ℕ) → Follows p more → Fronted p more j o
fronted [] more j o h = record { front = []; loose = j; at = o; splits = refl; alike = refl }
fronted (Byte b c w ∷ p) more j o h =
    let r : Fronted p more (joint b) (o + 1) = fronted p more (joint b) (o + 1) h.2 in
    record {
      front = token b (bytes_of p ++ more) o ∷ r.front;
      loose = r.loose;
      at = r.at;
      splits = cond-false _ _ _ h.0 ∙ ap (λ v. token b (bytes_of p ++ more) o ∷ v) r.splits;
      alike = ap (λ v. Byte b v 0 ∷ placeless_all r.front) (sym h.1)
          ∙ ap (λ v. Byte b c 0 ∷ v) r.alike;
    }
fronted (Gap w ∷ p) more j o h = absurd h
fronted (End w ∷ p) more j o h = absurd h
