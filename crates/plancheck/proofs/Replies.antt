-- Lines that are answered. Assumes nothing.
use Rattle.std.proofs.Common.{◌≡◌, ℕ, List, IfOk, Ok, Err, string_bytes, Result, String, sym, refl, subst}
use Rattle.plancheck.specs.declared.kept.Kept.{Kept}
use Rattle.plancheck.specs.Replies.{Gives}
use Rattle.plancheck.specs.Stores.{Store, store_of}

-- what is printed and what is kept, each by an equation
pub replied : (P : List ℕ → Store → Type 0) (bs x : List ℕ) (k l : Store) → bs ≡ x → k ≡ l → P x l → P bs k
replied P bs x k l e f h = subst (λ (z : List ℕ). P z k) (sym e) (subst (P x) (sym f) h)

module _ {Z Y : Type 0} where
  -- x is printed
  pub made_told : (P : List ℕ → Type 0) (x : List ℕ) (r : Result (String Z) Y) →
      IfOk r (λ s. string_bytes s ≡ x) → P x → IfOk r (λ s. P (string_bytes s))
  made_told P x (Ok s) e h = subst P (sym e) h
  made_told P x (Err y) e h = tt

  -- an answer of one kind is one of another
  pub gives_weaker : (P Q : List ℕ → Store → Type 0) (before after : Kept) (r : Result (String Z) Y) →
      ((bs : List ℕ) (k : Store) → P bs k → Q bs k) → Gives P before r after → Gives Q before r after
  gives_weaker P Q before after (Ok s) f h = f (string_bytes s) (store_of after) h
  gives_weaker P Q before after (Err y) f h = h

  -- what is printed where what is kept stays
  pub gives_made : (P : List ℕ → Type 0) (Q : List ℕ → Store → Type 0) (before : Kept)
      (r : Result (String Z) Y) → ((bs : List ℕ) → P bs → Q bs (store_of before)) →
      IfOk r (λ s. P (string_bytes s)) → Gives Q before r before
  gives_made P Q before (Ok s) f h = f (string_bytes s) h
  gives_made P Q before (Err y) f h = refl

module _ {Z Y : Type 0} (P : List ℕ → Store → Type 0) (before : Kept) where
  -- x is printed, and what is kept stays
  pub gives_told : (x : List ℕ) (r : Result (String Z) Y) → IfOk r (λ s. string_bytes s ≡ x) →
      P x (store_of before) → Gives P before r before
  gives_told x (Ok s) e h = subst (λ (z : List ℕ). P z (store_of before)) (sym e) h
  gives_told x (Err y) e h = refl
