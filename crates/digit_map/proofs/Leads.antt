-- What a token leads to stands as the grammar has it: the shared part. Assumes nothing.
use Rattle.std.proofs.Common.{◌≡◌, ℕ, Bool, true, false, List, [], ◌∷◌, ◌++◌, sym, refl, ap, ◌∙◌, subst, append_assoc}
use Rattle.keypad.specs.declared.key.Mark.{Mark}
use Rattle.keypad.specs.declared.timers.Timers.{Timers}
use Rattle.digit_map.specs.declared.token.Token.{Token}
use Rattle.digit_map.specs.declared.token.Token.TheVariants.{Byte}
use Rattle.digit_map.specs.declared.node.Node.{Node}
use Rattle.digit_map.specs.declared.progress.Last.TheVariants as last
use Rattle.digit_map.specs.declared.progress.Progress.{Progress}
use Rattle.digit_map.specs.Nodes.{position, awaiting, needs_key, dot_last_lem}
use Rattle.digit_map.specs.Limits.{Limits}
use Rattle.digit_map.specs.Acts.{progress, onward}
use Rattle.digit_map.specs.Turns.{State, Turn, on, done, bad, state, frame, in_alternative}
use Rattle.digit_map.specs.Grammar.{Choice, single, set, plain, long, place_more}
use Rattle.digit_map.specs.Grammar.{is_mark, Front, Admitted}
use Rattle.digit_map.specs.Standing.{first_or, behind_hold, Read, free, held, Started}
use Rattle.digit_map.specs.Standing.{Stands, in_an_alternative, Limited, Standing}
use Rattle.digit_map.proofs.NodeLaws.{Filled, filled_push}
use Rattle.digit_map.proofs.ElementLaws.{needs_placed, first_push, onward_is}

-- what a token behind p leads to
abbrev pub Leads : Limits → List Token → Token → Turn → Type 0
Leads L p x (on q) = Standing L (p ++ x ∷ []) q
Leads L p x (done t ns) = Admitted L (p ++ x ∷ []) t ns
Leads L p x (bad f) = Unit {0}

pub started : (b : Bool) (u : List Token) → Filled u → Started b u
started true u h = tt
started false [] h = h
started false (x ∷ u) h = tt

pub filled_choice : (u : List Token) {w : List Token} {k : ℕ} → Choice w k → Filled (u ++ w)
filled_choice u (single b c o k e) = filled_push u (Byte b c o) []
filled_choice u (set c o ms x d p) = filled_push u (Byte 91 c o) _

first_choice : (u : List Token) {w : List Token} {k : ℕ} → Choice w k → first_or (first_or 0 w) u
    ≡ first_or 0 (u ++ w)
first_choice u (single b c o k e) = sym (first_push u 0 (Byte b c o) [])
first_choice u (set c o ms x d p) = sym (first_push u 0 (Byte 91 c o) _)

module _ {s : List Token} {t : Timers} {b : Bool} {n : ℕ} {ns : List Node} (front : Front s t b n ns) where
  -- the state behind a position, as its reader and as the grammar has it
  settled : (us : List Node) (m : Mark) (h : Bool) (k : ℕ) (l : Bool) (o first : ℕ) (p : Progress) →
      p ≡ progress m false (needs_key us) o last.Position → o ≡ first →
      state t (ns ++ (us ++ awaiting (position k l false) m h ∷ []))
      (in_alternative (frame b n) (progress m false
      (needs_key (dot_last_lem (us ++ awaiting (position k l false) m h ∷ []))) first last.Position))
      ≡ state t ((ns ++ us) ++ awaiting (position k l false) m h ∷ []) (in_alternative (frame b n) p)
  settled us m h k l o first p e d =
      ap (λ z. state t (ns ++ (us ++ awaiting (position k l false) m h ∷ []))
      (in_alternative (frame b n) (progress m false z first last.Position))) (needs_placed us k l m h)
      ∙ (ap (λ z. state t (ns ++ (us ++ awaiting (position k l false) m h ∷ []))
      (in_alternative (frame b n) (progress m false (needs_key us) z last.Position))) (sym d)
      ∙ (ap (λ z. state t (ns ++ (us ++ awaiting (position k l false) m h ∷ []))
      (in_alternative (frame b n) z)) (sym e)
      ∙ ap (λ z. state t z (in_alternative (frame b n) p))
      (sym (append_assoc ns us (awaiting (position k l false) m h ∷ [])))))

  -- a position behind elements, and perhaps a Z
  pub behind_position : {u w : List Token} {us : List Node} {l : Bool} {p : Progress} {k : ℕ} →
      Read u us l p → Choice w k →
      Stands (s ++ (u ++ w))
      (state t ((ns ++ us) ++ awaiting (position k l false) p.mark p.marked ∷ [])
      (in_alternative (frame b n) (onward p (first_or 0 w) p.mark false last.Position)))
  behind_position {w = w} {k = k} (free {u = u} {ns = us} {m = m} {e = e} x) y =
      subst (Stands (s ++ (u ++ w)))
      (settled us m (is_mark e) k false _ _ _ (onward_is x (first_or 0 w) m false last.Position)
      (first_choice u y))
      (in_an_alternative front (free (place_more x (plain y))) (started b (u ++ w) (filled_choice u y)))
  behind_position {w = w} {k = k} (held {u = u} {ns = us} {m = m} {e = e} x d c o z) y =
      subst (λ v. Stands (s ++ v) (state t
      ((ns ++ us) ++ awaiting (position k true false) m (is_mark e) ∷ [])
      (in_alternative (frame b n) (onward (behind_hold u us m e o)
      (first_or 0 w) m false last.Position))))
      (sym (append_assoc u (Byte d c o ∷ []) w))
      (subst (Stands (s ++ (u ++ Byte d c o ∷ w)))
      (settled us m (is_mark e) k true _ _ (progress m false (needs_key us) (first_or o u) last.Position)
      refl (sym (first_push u 0 (Byte d c o) w)))
      (in_an_alternative front (free (place_more x (long d c o z y)))
      (started b (u ++ Byte d c o ∷ w) (filled_push u (Byte d c o) w))))

-- a token behind two parts
pub regroup : (L : Limits) (s u : List Token) (x : Token) {q : State} → Stands (s ++ (u ++ x ∷ [])) q →
    Limited L q.nodes q.spot → Standing L ((s ++ u) ++ x ∷ []) q
regroup L s u x {q = q} h k = record {
  text =
      subst (λ v. Stands v q) (sym (append_assoc s u (x ∷ []))) h;
  limits = k;
}
