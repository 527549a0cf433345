-- The run over a head and its fields, byte by byte. Assumes nothing.
use Rattle.std.proofs.Common.{◌≡◌, ℕ, ◌+◌, ◌≤◌, false, ltb, List, [], length, drop, Some, None, Ok, Err, sym, refl, ap, ◌∙◌, arith}
use Rattle.std.proofs.lemmas.Bool.{lt-ltb}
use Rattle.std.proofs.lemmas.Bool.Decides.{nat_tests}
use Rattle.keypad.specs.declared.timers.Timers.{Timers}
use Rattle.digit_map.specs.declared.fault.Fault.{Fault}
use Rattle.digit_map.specs.declared.token.Token.{Token}
use Rattle.digit_map.specs.declared.token.Token.TheVariants.{Byte, Gap, End}
use Rattle.digit_map.specs.declared.token.Cursor.{Cursor}
use Rattle.digit_map.specs.declared.sign.Field.{Field}
use Rattle.digit_map.specs.declared.sign.Field.TheVariants as field
use Rattle.digit_map.specs.declared.sign.Sign.{Sign}
use Rattle.digit_map.specs.declared.sign.Sign.TheVariants as sign
use Rattle.digit_map.specs.declared.head.Digits.{Digits}
use Rattle.digit_map.specs.declared.head.Digits.TheVariants.{Letter}
use Rattle.digit_map.specs.Signs.{sign_of}
use Rattle.digit_map.specs.Tokens.{tokens, rest, behind, Next}
use Rattle.digit_map.specs.Fields.{rank, timed, SoundDigits}
use Rattle.digit_map.specs.Limits.{sale}
use Rattle.digit_map.specs.Turns.{Turn, on, in_head, in_field, state, start, turn_head, turn, run, went}
use Rattle.digit_map.specs.Reads.{field_sign, next_field, FieldRead, HeadRead}
use Rattle.digit_map.proofs.Runs.{run_next}

-- what the field from the cursor c on comes to, whatever was read before it
abbrev Gives : List ℕ → ℕ → Cursor → Field → ℕ → (Timers → Turn) → Type 0
Gives text base c i at g =
    (t : Timers) → run sale (state t [] (in_field i at Letter)) (rest text base c) ≡ g t

-- a field from the cursor c on, of which the part up to b is read
pub record FieldUpTo (text : List ℕ) (base : ℕ) (c : Cursor) (i : Field) (at : ℕ) (b : Cursor) (d : Digits)
    : Type 0 where
  pub low : c.at ≤ b.at
  pub high : b.at ≤ length text
  pub sound : SoundDigits d
  pub is : Gives text base c i at (λ t. run sale (state t [] (in_field i at d)) (rest text base b))

-- no field may begin: the same sign behind the last one
sign_ends : (t : Timers) (k o : ℕ) (s : Sign) → None ≡ field_sign k o s
    → turn_head sale t k s o ≡ turn_head sale t 4 s o
sign_ends t k o (sign.Keys m) e = refl
sign_ends t k o (sign.Timer m) e = refl
sign_ends t k o (sign.Field field.Start) e = grind (arith, nat_tests)
sign_ends t k o (sign.Field field.Short) e = grind (arith, nat_tests)
sign_ends t k o (sign.Field field.Long) e = grind (arith, nat_tests)
sign_ends t k o (sign.Field field.Hold) e = grind (arith, nat_tests)
sign_ends t k o sign.Hold e = refl
sign_ends t k o sign.SetOpen e = refl
sign_ends t k o sign.Open e = refl
sign_ends t k o sign.Close e = refl
sign_ends t k o sign.Bar e = refl
sign_ends t k o sign.Dot e = refl
sign_ends t k o sign.End e = refl
sign_ends t k o sign.Other e = refl

token_ends : (t : Timers) (k : ℕ) (x : Token) → None ≡ next_field k x
    → turn sale (state t [] (in_head k)) x ≡ turn sale (state t [] (in_head 4)) x
token_ends t k (Byte b c o) e = sign_ends t k o (sign_of b c) e
token_ends t k (Gap o) e = refl
token_ends t k (End o) e = refl

-- a field begins
sign_begins : (t : Timers) (k o : ℕ) (s : Sign) (i : Field) (at : ℕ) → Some (i, at) ≡ field_sign k o s
    → turn_head sale t k s o ≡ on (state t [] (in_field i at Letter))
sign_begins t k o (sign.Keys m) i at e = cc
sign_begins t k o (sign.Timer m) i at e = cc
sign_begins t k o (sign.Field j) i at e = grind (arith, nat_tests)
sign_begins t k o sign.Hold i at e = cc
sign_begins t k o sign.SetOpen i at e = cc
sign_begins t k o sign.Open i at e = cc
sign_begins t k o sign.Close i at e = cc
sign_begins t k o sign.Bar i at e = cc
sign_begins t k o sign.Dot i at e = cc
sign_begins t k o sign.End i at e = cc
sign_begins t k o sign.Other i at e = cc

module _ (k : ℕ) (i : Field) (at : ℕ) where
  field_begins : (t : Timers) (x : Token) → Some (i, at) ≡ next_field k x
      → turn sale (state t [] (in_head k)) x ≡ on (state t [] (in_field i at Letter))
  field_begins t (Byte b c o) e = sign_begins t k o (sign_of b c) i at e
  field_begins t (Gap o) e = cc
  field_begins t (End o) e = cc

  field_behind : (text : List ℕ) (c : Cursor) (x : Token) → Some (i, at) ≡ next_field k x
      → behind text 0 x c ≡ rest text 0 c
  field_behind text c (Byte b f o) e = refl
  field_behind text c (Gap o) e = cc
  field_behind text c (End o) e = cc

-- a head that is read up to b, behind which a field numbered from k on may begin
pub record HeadUpTo (text : List ℕ) (t : Timers) (k : ℕ) (b : Cursor) : Type 0 where
  pub high : b.at ≤ length text
  pub loose : b.loose ≡ ltb 0 b.at
  pub is : run sale start (tokens false 0 text) ≡ run sale (state t [] (in_head k)) (rest text 0 b)

module _ {text : List ℕ} {t : Timers} {k : ℕ} {b : Cursor} {x : Token} {after : Cursor}
    (u : HeadUpTo text t k b) (next : Next text 0 b x after) where
  behind_head : rest text 0 b ≡ tokens (ltb 0 b.at) b.at (drop b.at text)
  behind_head = let z : 0 + b.at ≡ b.at = omega arith in rw (z, u.loose)

  pub head_ends : None ≡ next_field k x → HeadRead text (Ok (t, b.at))
  head_ends e = (
    u.high,
    u.is
        ∙ (run_next sale (state t [] (in_head k)) next
        ∙ (ap (λ (r : Turn). went sale r (behind text 0 x after)) (token_ends t k x e)
        ∙ (sym (run_next sale (state t [] (in_head 4)) next)
        ∙ ap (run sale (state t [] (in_head 4))) behind_head))),
  )

  module _ {i : Field} {at : ℕ} (e : Some (i, at) ≡ next_field k x) where
    begun : run sale start (tokens false 0 text)
        ≡ run sale (state t [] (in_field i at Letter)) (rest text 0 after)
    begun =
        u.is
        ∙ (run_next sale (state t [] (in_head k)) next
        ∙ (ap (λ (r : Turn). went sale r (behind text 0 x after)) (field_begins k i at t x e)
        ∙ ap (run sale (state t [] (in_field i at Letter))) (field_behind k i at text after x e)))

    pub head_bad : {f : Fault} → FieldRead text 0 after i at (Err f) → HeadRead text (Err f)
    head_bad r = begun ∙ r t

    pub head_on : {v : ℕ} {d : Cursor} → FieldRead text 0 after i at (Ok (v, d))
        → HeadUpTo text (timed t i v) (rank i + 1) d
    head_on r =
        record { high = r.1; loose = r.2 ∙ sym (lt-ltb _ _ (omega (arith, r.0))); is = begun ∙ r.4 t }
