-- A text is read as the grammar has it. Assumes nothing.
use Rattle.std.proofs.Common.{◌≡◌, ℕ, Bool, true, false, leb, List, [], ◌∷◌, ◌++◌, sym, refl, ap, ◌∙◌, subst, append_assoc, arith}
use Rattle.std.proofs.lemmas.Bool.{cond_both, leb-true}
use Rattle.std.proofs.lemmas.List.{append-nil}
use Rattle.keypad.specs.declared.timers.Timers.{Timers}
use Rattle.digit_map.specs.declared.sign.Sign.{Sign}
use Rattle.digit_map.specs.declared.sign.Sign.TheVariants as sign
use Rattle.digit_map.specs.declared.token.Token.{Token}
use Rattle.digit_map.specs.declared.token.Token.TheVariants.{Byte, Gap, End}
use Rattle.digit_map.specs.declared.node.Node.{Node}
use Rattle.digit_map.specs.Signs.{sign_of}
use Rattle.digit_map.specs.Fields.{rank}
use Rattle.digit_map.specs.Limits.{Limits}
use Rattle.digit_map.specs.Acts.{fresh}
use Rattle.digit_map.specs.Turns.{State, state, start, frame}
use Rattle.digit_map.specs.Turns.{in_alternative, turn, turn_head, turn_alternative, turn_closed}
use Rattle.digit_map.specs.Grammar as g
use Rattle.digit_map.specs.Grammar.{Head, none, Front, bare, opened, Alternative, several, Whole, Admitted}
use Rattle.digit_map.specs.Standing.{Stands, in_the_head, in_a_field, in_an_alternative, in_a_set}
use Rattle.digit_map.specs.Standing.{behind_bracket, free, Limited, Standing}
use Rattle.digit_map.proofs.SignLaws.{byte_of}
use Rattle.digit_map.proofs.Leads.{Leads}
use Rattle.digit_map.proofs.HeadLeads.{field_leads}
use Rattle.digit_map.proofs.SetLeads.{set_leads}
use Rattle.digit_map.proofs.AlternativeLeads.{byte_leads, end_leads}

module _ (L : Limits) where
  -- an alternative may begin behind a head
  begins : {p : List Token} {t : Timers} {k : ℕ} → Head p t k → (d : ℕ) (c : Bool) (o : ℕ) (sg : Sign) →
      sign_of d c ≡ sg →
      Leads L p (Byte d c o) (turn_alternative L t [] (frame false 1) fresh sg o)
  begins {p = p} {t = t} x d c o sg e =
      subst (λ v. Leads L v (Byte d c o) (turn_alternative L t [] (frame false 1) fresh sg o)) (append-nil p)
      (byte_leads L (bare x) (free none) (omega arith, omega arith) d c o sg e)

  head_leads : {p : List Token} {t : Timers} {k : ℕ} → Head p t k → (d : ℕ) (c : Bool) (o : ℕ) (sg : Sign) →
      sign_of d c ≡ sg →
      Leads L p (Byte d c o) (turn_head L t k sg o)
  head_leads x d c o (sign.Keys m) e = begins x d c o (sign.Keys m) e
  head_leads x d c o (sign.Timer m) e = begins x d c o (sign.Timer m) e
  head_leads {p = p} {k = k} x d c o (sign.Field i) e =
      cond_both (leb k (rank i)) _ _ (Leads L p (Byte d c o))
      (λ h. record { text = in_a_field x (leb-true k (rank i) h) (g.letter d c o i e); limits = tt })
      (λ _. tt)
  head_leads x d c o sign.Hold e = begins x d c o sign.Hold e
  head_leads x d c o sign.SetOpen e = begins x d c o sign.SetOpen e
  head_leads {p = p} {t = t} x d c o sign.Open e =
      record {
        text = subst (λ v. Stands (p ++ Byte v c o ∷ []) (state t [] (in_alternative (frame true 1) fresh)))
            (sym (byte_of d c sign.Open e))
            (subst (λ v. Stands v (state t [] (in_alternative (frame true 1) fresh)))
            (append-nil (p ++ Byte 40 c o ∷ []))
            (in_an_alternative (opened x c o) (free none) tt));
        limits = (omega arith, omega arith);
      }
  head_leads x d c o sign.Close e = begins x d c o sign.Close e
  head_leads x d c o sign.Bar e = begins x d c o sign.Bar e
  head_leads x d c o sign.Dot e = begins x d c o sign.Dot e
  head_leads x d c o sign.End e = absurd (byte_of d c sign.End e)
  head_leads x d c o sign.Other e = begins x d c o sign.Other e

  closed_leads : (p : List Token) (t : Timers) (ns : List Node) (n d : ℕ) (c : Bool) (o : ℕ) (sg : Sign) →
      sign_of d c ≡ sg →
      Leads L p (Byte d c o) (turn_closed t ns n sg o)
  closed_leads p t ns n d c o (sign.Keys k) e = tt
  closed_leads p t ns n d c o (sign.Timer m) e = tt
  closed_leads p t ns n d c o (sign.Field i) e = tt
  closed_leads p t ns n d c o sign.Hold e = tt
  closed_leads p t ns n d c o sign.SetOpen e = tt
  closed_leads p t ns n d c o sign.Open e = tt
  closed_leads p t ns n d c o sign.Close e = tt
  closed_leads p t ns n d c o sign.Bar e = tt
  closed_leads p t ns n d c o sign.Dot e = tt
  closed_leads p t ns n d c o sign.End e = absurd (byte_of d c sign.End e)
  closed_leads p t ns n d c o sign.Other e = tt

  stands_lead : {p : List Token} {q : State} → Stands p q → Limited L q.nodes q.spot → (x : Token) →
      Leads L p x (turn L q x)
  stands_lead (in_the_head x) h (Byte d c o) = head_leads x d c o (sign_of d c) refl
  stands_lead (in_the_head x) h (Gap o) = tt
  stands_lead (in_the_head x) h (End o) = tt
  stands_lead (in_a_field {i = i} x le y) h (Byte d c o) = field_leads L x i le _ d c o y
  stands_lead (in_a_field x le y) h (Gap o) = tt
  stands_lead (in_a_field x le y) h (End o) = tt
  stands_lead (in_an_alternative x y w) h (Byte d c o) = byte_leads L x y h d c o (sign_of d c) refl
  stands_lead (in_an_alternative x y w) h (Gap o) = tt
  stands_lead (in_an_alternative x y w) h (End o) = end_leads L x y h o
  stands_lead (in_a_set x y e at z) h (Byte d c o) = set_leads L x y h.0 h.1 e at d c o z
  stands_lead (in_a_set x y e at z) h (Gap o) = tt
  stands_lead (in_a_set x y e at z) h (End o) = tt
  stands_lead (behind_bracket {s = s} {u = u} {t = t} {n = n} {ns = ns} {us = us} x y e at) h (Byte d c o) =
      closed_leads (s ++ (u ++ Byte 41 e at ∷ [])) t (ns ++ us) n d c o (sign_of d c) refl
  stands_lead (behind_bracket x y e at) h (Gap o) = tt
  stands_lead (behind_bracket {s = s} {u = u} {t = t} {n = n} {ns = ns} {us = us} x y e at) h (End o) =
      record {
        number = n;
        few = h.0;
        fits = h.1;
        whole = subst (λ v. Whole v t (ns ++ us) n)
            (ap (λ v. s ++ v) (sym (append_assoc u (Byte 41 e at ∷ []) (End o ∷ [])))
            ∙ sym (append_assoc s (u ++ Byte 41 e at ∷ []) (End o ∷ [])))
            (several x y e at o);
      }

  pub leads : {p : List Token} {q : State} → Standing L p q → (x : Token) → Leads L p x (turn L q x)
  leads s x = stands_lead s.text s.limits x

  pub at_start : Standing L [] start
  at_start = record { text = in_the_head none; limits = tt }
