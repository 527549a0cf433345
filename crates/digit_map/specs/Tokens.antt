-- A text with its blanks taken out. Assumes nothing.
use Rattle.std.specs.Prelude.{◌≡◌, ℕ, ◌+◌, ◌<◌, ◌≤◌, Bool, true, false, cond, ◌&&◌, ◌||◌, List, [], ◌∷◌, length, drop, ◌==◌}
use Rattle.digit_map.specs.declared.token.Token.{Token}
use Rattle.digit_map.specs.declared.token.Token.TheVariants.{Byte, Gap, End}
use Rattle.digit_map.specs.declared.token.Cursor.{Cursor}
use Rattle.digit_map.specs.Bytes.{blank, joint, field_letter}

-- behind its blanks, the text goes on with a joint
abbrev pub joint_ahead : List ℕ → Bool
joint_ahead [] = false
joint_ahead (b ∷ bs) = cond (blank b) (joint_ahead bs) (joint b)

-- behind its blanks, the text goes on with a colon
abbrev pub colon_ahead : List ℕ → Bool
colon_ahead [] = false
colon_ahead (b ∷ bs) = cond (blank b) (colon_ahead bs) (b == 58)

-- a byte with the text behind it: a letter T, S, L or Z is told apart by whether a colon is next
abbrev pub token : ℕ → List ℕ → ℕ → Token
token b bs o = Byte b (field_letter b && colon_ahead bs) o

-- the text from offset o on, its blanks taken out, and its end; j says that a joint stands before it. The
-- first blank of a run that has no joint on either side is the last token
abbrev pub tokens : Bool → ℕ → List ℕ → List Token
tokens j o [] = End o ∷ []
tokens j o (b ∷ bs) =
    cond (blank b)
    (cond (j || joint_ahead bs) (tokens true (o + 1) bs) (Gap o ∷ []))
    (token b bs o ∷ tokens (joint b) (o + 1) bs)

-- a part of a text, whose own first byte has the offset base, from a cursor on
abbrev pub rest : List ℕ → ℕ → Cursor → List Token
rest text base c = tokens c.loose (base + c.at) (drop c.at text)

-- what stands behind a token: a gap and the text's end are the last
abbrev pub behind : List ℕ → ℕ → Token → Cursor → List Token
behind text base (Byte b f o) c = rest text base c
behind text base (Gap o) c = []
behind text base (End o) c = []

-- the cursor moves on behind a byte
abbrev pub Moves : Token → ℕ → ℕ → Type 0
Moves (Byte b f o) from after = from < after
Moves (Gap o) from after = Unit {0}
Moves (End o) from after = Unit {0}

-- blanks may stand behind a byte that is a joint
abbrev pub Loosens : Token → Bool → Type 0
Loosens (Byte b f o) loose = loose ≡ joint b
Loosens (Gap o) loose = Unit {0}
Loosens (End o) loose = Unit {0}

-- the next token from a cursor on, and the cursor behind it
pub record Next (text : List ℕ) (base : ℕ) (c : Cursor) (t : Token) (after : Cursor) : Type 0 where
  pub moves : Moves t c.at after.at
  pub loosens : Loosens t after.loose
  pub high : after.at ≤ length text
  pub is : rest text base c ≡ t ∷ behind text base t after
