-- Laws of elements and of how far they are read. Assumes nothing.
use Rattle.std.proofs.Common.{◌≡◌, ℕ, Bool, true, false, ◌||◌, List, [], ◌∷◌, ◌++◌, sym, refl, ap, ◌∙◌}
use Rattle.keypad.specs.declared.key.Mark.{Mark}
use Rattle.digit_map.specs.declared.token.Token.{Token}
use Rattle.digit_map.specs.declared.token.Token.TheVariants.{Byte}
use Rattle.digit_map.specs.declared.node.Node.{Node}
use Rattle.digit_map.specs.declared.progress.Last.{Last}
use Rattle.digit_map.specs.Nodes.{position, awaiting, dot_last_lem, needs_key}
use Rattle.digit_map.specs.Acts.{progress, onward, first_at, needs_by}
use Rattle.digit_map.specs.Grammar.{single, set, Placed, plain, long, Elements, none, mark_more}
use Rattle.digit_map.specs.Grammar.{place_more, dot_more, Final, nothing, mark, place, dot, is_mark}
use Rattle.digit_map.specs.Offsets.{at_of}
use Rattle.digit_map.specs.Standing.{first_or, last_of, needs_before, behind_elements}
use Rattle.digit_map.proofs.NodeLaws.{Filled, filled_push, needs-++, dot_last-++}

-- what the last of some elements tells
abbrev pub Facts : Final → List Token → List Node → Type 0
Facts nothing u ns = (u ≡ []) × (ns ≡ [])
Facts mark u ns = Filled u
Facts place u ns = Filled u × Filled ns × (needs_key ns ≡ true)
Facts dot u ns = Filled u

pub placed_filled : (s : List Token) {u : List Token} {k : ℕ} {l : Bool} → Placed u k l → Filled (s ++ u)
placed_filled s (plain (single b c o k e)) = filled_push s (Byte b c o) []
placed_filled s (plain (set c o ms x d p)) = filled_push s (Byte 91 c o) _
placed_filled s (long b c o e x) = filled_push s (Byte b c o) _

or_true : (x : Bool) → (x || true) ≡ true
or_true true = refl
or_true false = refl

or_none : (x : Bool) → (x || false) ≡ x
or_none true = refl
or_none false = refl

pub facts : {u : List Token} {ns : List Node} {m : Mark} {e : Final} → Elements u ns m e → Facts e u ns
facts none = (refl, refl)
facts (mark_more {s = s} x b c o k h) = filled_push s (Byte b c o) []
facts (place_more {s = s} {ns = ns} {m = m} {e = e} {k = k} {l = l} x y) = (
  placed_filled s y,
  filled_push ns _ [],
  needs-++ ns (awaiting (position k l false) m (is_mark e) ∷ [])
      ∙ or_true (needs_key ns),
)
facts (dot_more {s = s} x c o) = filled_push s (Byte 46 c o) []

-- a position that may get a dot is not counted among those that need a key
pub needs_placed : (ns : List Node) (k : ℕ) (l : Bool) (m : Mark) (h : Bool) →
    needs_key (dot_last_lem (ns ++ awaiting (position k l false) m h ∷ [])) ≡ needs_key ns
needs_placed ns k l m h =
    ap needs_key (dot_last-++ ns (awaiting (position k l false) m h ∷ []) tt)
    ∙ (needs-++ ns (awaiting (position k l true) m h ∷ []) ∙ or_none (needs_key ns))

pub first_push : (u : List Token) (o : ℕ) (x : Token) (v : List Token) →
    first_or o (u ++ x ∷ v) ≡ first_or (at_of x) u
first_push [] o x v = refl
first_push (y ∷ u) o x v = refl

first_filled : (u : List Token) (o p : ℕ) → Filled u → first_or o u ≡ first_or p u
first_filled [] o p h = absurd h
first_filled (x ∷ u) o p h = refl

first_behind : (e : Final) (u : List Token) (ns : List Node) (o : ℕ) → Facts e u ns →
    first_at (first_or 0 u) o (last_of e) ≡ first_or o u
first_behind nothing u ns o h = sym (ap (first_or o) h.0)
first_behind mark u ns o h = first_filled u 0 o h
first_behind place u ns o h = first_filled u 0 o h.0
first_behind dot u ns o h = first_filled u 0 o h

needs_behind : (e : Final) (u : List Token) (ns : List Node) → Facts e u ns →
    needs_by (needs_before e ns) (last_of e) ≡ needs_key ns
needs_behind nothing u ns h = refl
needs_behind mark u ns h = refl
needs_behind place u ns h = sym h.2
needs_behind dot u ns h = refl

-- how far elements are read behind one more byte
pub onward_is : {u : List Token} {ns : List Node} {m : Mark} {e : Final} → Elements u ns m e →
    (o : ℕ) (k : Mark) (h : Bool) (l : Last) →
    onward (behind_elements u ns m e) o k h l ≡ progress k h (needs_key ns) (first_or o u) l
onward_is {u = u} {ns = ns} {m = m} {e = e} x o k h l =
    ap (λ n. progress k h n (first_at (first_or 0 u) o (last_of e)) l) (needs_behind e u ns (facts x))
    ∙ ap (λ f. progress k h (needs_key ns) f l) (first_behind e u ns o (facts x))
