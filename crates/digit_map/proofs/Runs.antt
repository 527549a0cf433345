-- Laws of a run. Assumes nothing.
use Rattle.std.proofs.Common.{◌≡◌, ℕ, List, [], ◌∷◌, ◌++◌, refl, ap, ◌∙◌, arith}
use Rattle.digit_map.specs.declared.fault.Fault.{Fault}
use Rattle.digit_map.specs.declared.token.Token.{Token}
use Rattle.digit_map.specs.declared.token.Cursor.{Cursor}
use Rattle.digit_map.specs.Tokens.{rest, behind, Next}
use Rattle.digit_map.specs.Limits.{Limits}
use Rattle.digit_map.specs.Turns.{State, Turn, on, done, bad, turn, run, went}

pub run_on : (L : Limits) (s q : State) (x : Token) (xs : List Token)
    → turn L s x ≡ on q → run L s (x ∷ xs) ≡ run L q xs
run_on L s q x xs e = ap (λ (r : Turn). went L r xs) e

pub run_bad : (L : Limits) (s : State) (f : Fault) (x : Token) (xs : List Token)
    → turn L s x ≡ bad f → run L s (x ∷ xs) ≡ bad f
run_bad L s f x xs e = ap (λ (r : Turn). went L r xs) e

-- a run from a cursor on takes the next token
pub run_next : {text : List ℕ} {base : ℕ} {c after : Cursor} {x : Token} (L : Limits) (s : State)
    → Next text base c x after → run L s (rest text base c) ≡ went L (turn L s x) (behind text base x after)
run_next L s n = ap (run L s) n.is

module _ (L : Limits) where
  went_join : (p r : List Token) (q : State) →
      ((s : State) → run L s p ≡ on q → run L s (p ++ r) ≡ run L q r) →
      (x : Turn) → went L x p ≡ on q → went L x (p ++ r) ≡ run L q r
  went_join p r q below (on w) e = below w e
  went_join p r q below (done t ns) e = let z : ◌≡◌ {A = ℕ} 0 1 = cc in absurd (omega arith)
  went_join p r q below (bad f) e = let z : ◌≡◌ {A = ℕ} 0 1 = cc in absurd (omega arith)

  -- what is read on behind tokens that were all taken
  pub run_join : (p r : List Token) (s q : State) → run L s p ≡ on q → run L s (p ++ r) ≡ run L q r
  run_join [] r s q e = let d : s ≡ q = cc in ap (λ w. run L w r) d
  run_join (x ∷ p) r s q e = went_join p r q (λ w. run_join p r w q) (turn L s x) e

  pub run_chain : (p r : List Token) (s q w : State) → run L s p ≡ on q → run L q r ≡ on w →
      run L s (p ++ r) ≡ on w
  run_chain p r s q w e f = run_join p r s q e ∙ f

  pub run_step : (p : List Token) (x : Token) (s q w : State) → run L s p ≡ on q → turn L q x ≡ on w →
      run L s (p ++ x ∷ []) ≡ on w
  run_step p x s q w e f = run_chain p (x ∷ []) s q w e (run_on L q w x [] f)

  -- tokens taken as a whole are taken one part behind the other
  pub record Split (x : Turn) (p r : List Token) (w : State) : Type 0 where
    pub between : State
    pub front : went L x p ≡ on between
    pub back : run L between r ≡ on w

  went_split : (p r : List Token) (w : State) → ((s : State) → run L s (p ++ r) ≡ on w → Split (on s) p r w) →
      (x : Turn) → went L x (p ++ r) ≡ on w → Split x p r w
  went_split p r w below (on v) e = below v e
  went_split p r w below (done t ns) e = let z : ◌≡◌ {A = ℕ} 0 1 = cc in absurd (omega arith)
  went_split p r w below (bad f) e = let z : ◌≡◌ {A = ℕ} 0 1 = cc in absurd (omega arith)

  pub run_split : (p r : List Token) (s w : State) → run L s (p ++ r) ≡ on w → Split (on s) p r w
  run_split [] r s w e = record { between = s; front = refl; back = e }
  run_split (x ∷ p) r s w e =
      let h : Split (turn L s x) p r w = went_split p r w (λ v. run_split p r v w) (turn L s x) e in
      record { between = h.between; front = h.front; back = h.back }
