-- Where blanks may stand in a map's text. Assumes nothing.
use Rattle.std.specs.Prelude.{◌≡◌, ℕ, ◌+◌, Bool, true, false, ◌&&◌, ◌||◌, List, [], ◌∷◌, ◌++◌, length}
use Rattle.digit_map.specs.declared.token.Token.{Token}
use Rattle.digit_map.specs.declared.token.Token.TheVariants.{Byte, Gap, End}
use Rattle.digit_map.specs.Bytes.{blank, joint}
use Rattle.digit_map.specs.Tokens.{token, tokens}

-- the text is blanks only
abbrev pub all_blank : List ℕ → Bool
all_blank [] = true
all_blank (b ∷ bs) = blank b && all_blank bs

-- the text begins with a byte of a kind
abbrev pub begins : (ℕ → Bool) → List ℕ → Bool
begins kind [] = false
begins kind (b ∷ bs) = kind b

-- the text ends with a byte of a kind; before says so of what stands before it
abbrev pub ends : (ℕ → Bool) → Bool → List ℕ → Bool
ends kind before [] = before
ends kind before (b ∷ bs) = ends kind (kind b) bs

-- a text from an offset on and its tokens, where j says that a joint stands right before the text: the end; a
-- byte that is no blank; a whole run of blanks, right behind a joint or right before one
pub data Spaced : Bool → ℕ → List ℕ → List Token → Type 0 where
  nothing : {j : Bool} {o : ℕ} → Spaced j o [] (End o ∷ [])
  byte : {j : Bool} {o b : ℕ} {bs : List ℕ} {ts : List Token}
      → blank b ≡ false → Spaced (joint b) (o + 1) bs ts → Spaced j o (b ∷ bs) (token b bs o ∷ ts)
  run : {j : Bool} {o : ℕ} {bs : List ℕ} {ts : List Token} (w : ℕ) (ws : List ℕ)
      → all_blank (w ∷ ws) ≡ true → (j || begins joint bs) ≡ true → begins blank bs ≡ false
      → Spaced false (o + length (w ∷ ws)) bs ts → Spaced j o ((w ∷ ws) ++ bs) ts

-- the token is no gap
abbrev pub stands : Token → Bool
stands (Byte b c o) = true
stands (Gap o) = false
stands (End o) = true

-- no token is a gap
abbrev pub gapless : List Token → Bool
gapless [] = true
gapless (t ∷ ts) = stands t && gapless ts

-- a text has the tokens that the rule gives it, exactly where its tokens have no gap
abbrev pub Spaces_taken_out : Type 0
Spaces_taken_out = (text : List ℕ) (ts : List Token)
    → (Spaced false 0 text ts → (tokens false 0 text ≡ ts) × (gapless ts ≡ true))
    × ((tokens false 0 text ≡ ts) × (gapless ts ≡ true) → Spaced false 0 text ts)

-- between front and back no blank and no joint is a neighbour; j says that a joint stands right before front
pub record Apart (j : Bool) (front back : List ℕ) : Type 0 where
  pub blankless : (ends blank false front || begins blank back) ≡ false
  pub jointless : (ends joint j front || begins joint back) ≡ false

-- in a text from o on, with j as above, a whole run of blanks begins at an offset and has no joint on either
-- side; what stands before it is as the rule has it
pub record Misplaced (j : Bool) (o : ℕ) (text : List ℕ) (offset : ℕ) : Type 0 where
  pub front : List ℕ
  pub first : ℕ
  pub more : List ℕ
  pub back : List ℕ
  pub is : text ≡ front ++ ((first ∷ more) ++ back)
  pub place : offset ≡ o + length front
  pub blanks : all_blank (first ∷ more) ≡ true
  pub apart : Apart j front back
  pub before : (ts : List Token) × Spaced j o front ts

-- a text's tokens have a gap exactly where a run of blanks is misplaced, and nothing behind it
pub record GapAt (text : List ℕ) (o : ℕ) : Type 0 where
  pub misplaced : (p r : List Token) → tokens false 0 text ≡ p ++ Gap o ∷ r → Misplaced false 0 text o
  pub shown : Misplaced false 0 text o → (p : List Token) × (tokens false 0 text ≡ p ++ Gap o ∷ [])
