-- The run over alternatives one behind another, from behind the head on. Assumes nothing.
use Rattle.std.proofs.Common.{◌≡◌, ℕ, ◌+◌, ◌≤◌, Bool, true, false, List, [], length, Ok, sym, refl, ap, ◌∙◌, arith}
use Rattle.keypad.specs.declared.timers.Timers.{Timers}
use Rattle.digit_map.specs.declared.sign.Field.TheVariants as field
use Rattle.digit_map.specs.declared.sign.Sign.{Sign}
use Rattle.digit_map.specs.declared.sign.Sign.TheVariants as sign
use Rattle.digit_map.specs.declared.token.Token.{Token}
use Rattle.digit_map.specs.declared.token.Token.TheVariants.{Byte, Gap, End}
use Rattle.digit_map.specs.declared.token.Cursor.{Cursor}
use Rattle.digit_map.specs.declared.draft.Draft.{Draft}
use Rattle.digit_map.specs.declared.progress.Frame.{Frame}
use Rattle.digit_map.specs.Tokens.{tokens, rest, behind, Next}
use Rattle.digit_map.specs.Nodes.{count_positions, count_ends}
use Rattle.digit_map.specs.Drafts.{drafted}
use Rattle.digit_map.specs.Limits.{sale}
use Rattle.digit_map.specs.Acts.{fresh}
use Rattle.digit_map.specs.Turns.{Turn, in_head, in_alternative, state, frame, by_sign, turn_head}
use Rattle.digit_map.specs.Turns.{turn_alternative, run, went}
use Rattle.digit_map.specs.Reads.{sign_at}
use Rattle.digit_map.proofs.Acting.{by_sign_ok, is_end}

abbrev begin : Bool → Cursor
begin j = record { at = 0; loose = j }

-- alternatives up to b, where the one that f says begins, the map grown from m to w
pub record AlternativesUpTo (text : List ℕ) (base : ℕ) (j : Bool) (m : Draft) (f : Frame) (b : Cursor)
    (w : Draft) : Type 0 where
  pub high : b.at ≤ length text
  pub timers : w.timers ≡ m.timers
  pub few : count_positions (drafted w) ≤ 255
  pub ends : count_ends (drafted w) + 1 ≡ f.number
  pub number : f.number ≤ 65
  pub is : run sale (state m.timers [] (in_head 4)) (tokens j base text)
      ≡ run sale (state m.timers (drafted w) (in_alternative f fresh)) (rest text base b)

-- behind the head an alternative begins at once, unless a bracket opens
sign_bare : (t : Timers) (s : Sign) (o : ℕ) → (s ≡ sign.Open → ⊥) →
    turn_head sale t 4 s o ≡ turn_alternative sale t [] (frame false 1) fresh s o
sign_bare t (sign.Keys k) o h = refl
sign_bare t (sign.Timer m) o h = refl
sign_bare t (sign.Field field.Start) o h = refl
sign_bare t (sign.Field field.Short) o h = refl
sign_bare t (sign.Field field.Long) o h = refl
sign_bare t (sign.Field field.Hold) o h = refl
sign_bare t sign.Hold o h = refl
sign_bare t sign.SetOpen o h = refl
sign_bare t sign.Open o h = absurd (h refl)
sign_bare t sign.Close o h = refl
sign_bare t sign.Bar o h = refl
sign_bare t sign.Dot o h = refl
sign_bare t sign.End o h = refl
sign_bare t sign.Other o h = refl

-- an opening bracket is a byte
open_behind : (s : Sign) (o : ℕ) (text : List ℕ) (base : ℕ) (c : Cursor) (x : Token)
    → s ≡ sign.Open → Ok (s, o) ≡ sign_at 1 x → behind text base x c ≡ rest text base c
open_behind s o text base c (Byte b k q) e h = refl
open_behind s o text base c (Gap q) e h = cc
open_behind s o text base c (End q) e h = let z = is_end 1 s o q h in cc

module _ {text : List ℕ} {base : ℕ} {j : Bool} {x : Token} {after : Cursor}
    (next : Next text base (begin j) x after) where
  first : (t : Timers) → run sale (state t [] (in_head 4)) (tokens j base text)
      ≡ went sale (by_sign 1 (turn_head sale t 4) x) (behind text base x after)
  first t =
      let z : base ≡ base + 0 = omega arith in
      ap (λ n. run sale (state t [] (in_head 4)) (tokens j n text)) z
      ∙ ap (run sale (state t [] (in_head 4))) next.is

  module _ {s : Sign} {o : ℕ} (m : Draft) (g : Ok (s, o) ≡ sign_at 1 x) (empty : drafted m ≡ []) where
    begins : (f : Frame) (b : Cursor) → f.number ≡ 1 → b.at ≤ length text →
        run sale (state m.timers [] (in_head 4)) (tokens j base text)
        ≡ run sale (state m.timers [] (in_alternative f fresh)) (rest text base b) →
        AlternativesUpTo text base j m f b m
    begins f b n h r =
        let p = ap count_positions empty in let q = ap count_ends empty in
        record {
          high = h;
          timers = refl;
          few = omega arith;
          ends = omega arith;
          number = omega arith;
          is = r ∙ ap (λ ns. run sale (state m.timers ns (in_alternative f fresh)) (rest text base b))
              (sym empty);
        }

    turned : run sale (state m.timers [] (in_head 4)) (tokens j base text)
        ≡ went sale (turn_head sale m.timers 4 s o) (behind text base x after)
    turned =
        let h = by_sign_ok 1 (turn_head sale m.timers 4) x s o g in
        first m.timers ∙ ap (λ (r : Turn). went sale r (behind text base x after)) h

    pub begins_open : s ≡ sign.Open → AlternativesUpTo text base j m (frame true 1) after m
    begins_open e =
        let z = open_behind s o text base after x e g in
        begins (frame true 1) after refl next.high
        (turned
        ∙ (ap (λ r. went sale (turn_head sale m.timers 4 r o) (behind text base x after)) e
        ∙ ap (run sale (state m.timers [] (in_alternative (frame true 1) fresh))) z))

    pub begins_bare : (s ≡ sign.Open → ⊥) → AlternativesUpTo text base j m (frame false 1) (begin j) m
    begins_bare e =
        let first-state = state m.timers [] (in_alternative (frame false 1) fresh) in
        let h = by_sign_ok 1 (turn_alternative sale m.timers [] (frame false 1) fresh) x s o g in
        begins (frame false 1) (begin j) refl (omega arith)
        (turned
        ∙ (ap (λ (r : Turn). went sale r (behind text base x after)) (sign_bare m.timers s o e ∙ sym h)
        ∙ sym (ap (run sale first-state) next.is)))
