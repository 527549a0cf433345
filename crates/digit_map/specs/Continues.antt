-- How far a text can still be continued to one that is admitted. Assumes nothing.
use Rattle.std.specs.Prelude.{◌≡◌, ℕ, false, List, [], ◌∷◌, ◌++◌, ◌≢◌}
use Rattle.keypad.specs.declared.timers.Timers.{Timers}
use Rattle.digit_map.specs.declared.fault.Cause.TheVariants as cause
use Rattle.digit_map.specs.declared.fault.Fault.{Fault}
use Rattle.digit_map.specs.declared.token.Token.{Token}
use Rattle.digit_map.specs.declared.token.Token.TheVariants.{Byte, Gap, End}
use Rattle.digit_map.specs.declared.node.Node.{Node}
use Rattle.digit_map.specs.Limits.{Limits}
use Rattle.digit_map.specs.Tokens.{tokens}
use Rattle.digit_map.specs.Grammar.{Admitted}
use Rattle.digit_map.specs.Shows.{Decides}

-- the bytes of tokens
abbrev pub bytes_of : List Token → List ℕ
bytes_of [] = []
bytes_of (Byte b c o ∷ ts) = b ∷ bytes_of ts
bytes_of (Gap o ∷ ts) = bytes_of ts
bytes_of (End o ∷ ts) = bytes_of ts

-- a token, wherever it stands: a letter T, S, L or Z is taken together with whether a colon follows
abbrev pub placeless : Token → Token
placeless (Byte b c o) = Byte b c 0
placeless (Gap o) = Gap 0
placeless (End o) = End 0

abbrev pub placeless_all : List Token → List Token
placeless_all [] = []
placeless_all (t ∷ ts) = placeless t ∷ placeless_all ts

-- the tokens, with no blanks between them, begin a text that is admitted, its length and the limits aside
pub record Continued (p : List Token) : Type 0 where
  pub more : List ℕ
  pub front : List Token
  pub back : List Token
  pub splits : tokens false 0 (bytes_of p ++ more) ≡ front ++ back
  pub alike : placeless_all front ≡ placeless_all p
  pub limits : Limits
  pub timers : Timers
  pub nodes : List Node
  pub admitted : Admitted limits (front ++ back) timers nodes

-- what stands before the deciding token can still be continued to an admitted text, and with that token it
-- cannot, unless the fault is one of the limits
pub record Turning {ts : List Token} {f : Fault} (d : Decides ts f) : Type 0 where
  pub continued : Continued d.before
  pub ended : (f.cause ≢ cause.Excess) → Continued (d.before ++ d.here ∷ []) → ⊥
