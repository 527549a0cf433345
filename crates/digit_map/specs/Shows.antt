-- Which token shows which fault, and which fault decides. Assumes nothing.
use Rattle.std.specs.Prelude.{◌≡◌, ℕ, ◌<◌, ◌≤◌, ◌⊎◌, List, [], ◌∷◌, ◌++◌}
use Rattle.keypad.specs.declared.timers.Timers.{Timers}
use Rattle.digit_map.specs.declared.fault.Cause.TheVariants as cause
use Rattle.digit_map.specs.declared.fault.Fault.{Fault}
use Rattle.digit_map.specs.declared.sign.Field.{Field}
use Rattle.digit_map.specs.declared.sign.Sign.TheVariants as sign
use Rattle.digit_map.specs.declared.token.Token.{Token}
use Rattle.digit_map.specs.declared.node.Node.{Node}
use Rattle.digit_map.specs.Faults.{cause_number, fault}
use Rattle.digit_map.specs.Offsets.{at_of}
use Rattle.digit_map.specs.Nodes.{count_positions}
use Rattle.digit_map.specs.Limits.{sale}
use Rattle.digit_map.specs.Turns.{State}
use Rattle.digit_map.specs.Grammar.{Admitted}
use Rattle.digit_map.specs.Standing.{Standing}
use Rattle.digit_map.specs.Situations.{token_sign_lem, Solid, number_at, Outside, FieldMay, InField, InSet}
use Rattle.digit_map.specs.Situations.{BehindPosition, BehindHold, AtElement, EndsNeedless, TakesZ}
use Rattle.digit_map.specs.Situations.{BeginsPosition, BeginsElement}

-- a token that is not allowed behind p: with it nothing begins that the grammar knows, and no text is whole
pub record Barred (p : List Token) (x : Token) : Type 0 where
  pub no_place : (w : State) → Standing sale (p ++ x ∷ []) w → ⊥
  pub no_map : (t : Timers) (ns : List Node) → Admitted sale (p ++ x ∷ []) t ns → ⊥

-- the faults with a cause of their own that a token shows behind p, where q is the place in the text
pub data Faulty (p : List Token) (q : State) (x : Token) : Fault → Type 0 where
  field_misplaced : (i : Field) → token_sign_lem x ≡ sign.Field i → Outside q.spot →
      (FieldMay i q.spot → ⊥) →
      Faulty p q x (fault cause.Head (at_of x) 0)
  field_broken : (o : ℕ) → InField o q.spot → Solid x → Barred p x → Faulty p q x (fault cause.Head o 0)
  set_broken : (o : ℕ) → InSet o q.spot → Solid x → Barred p x →
      Faulty p q x (fault cause.Set o (number_at q.spot))
  dot_misplaced : token_sign_lem x ≡ sign.Dot → Outside q.spot → (BehindPosition q.spot → ⊥) →
      Faulty p q x (fault cause.Affix (at_of x) (number_at q.spot))
  hold_misplaced : (o : ℕ) → BehindHold o q.spot → Solid x → (TakesZ (token_sign_lem x) → ⊥) →
      Faulty p q x (fault cause.Affix o (number_at q.spot))
  keyless : (o : ℕ) → EndsNeedless o (token_sign_lem x) q.spot →
      Faulty p q x (fault cause.Keyless o (number_at q.spot))
  position_excess : AtElement q.spot → sale.positions ≤ count_positions q.nodes →
      BeginsPosition (token_sign_lem x) →
      Faulty p q x (fault cause.Excess (at_of x) (number_at q.spot))
  alternative_excess : AtElement q.spot → sale.alternatives < number_at q.spot →
      BeginsElement (token_sign_lem x) →
      Faulty p q x (fault cause.Excess (at_of x) (number_at q.spot))

-- the faults that a token shows: those, or, where it shows none of them, that it is not allowed there
pub data Shows (p : List Token) (q : State) (x : Token) : Fault → Type 0 where
  named : {f : Fault} → Faulty p q x f → Shows p q x f
  not_allowed : Barred p x → ((f : Fault) → Faulty p q x f → ⊥) →
      Shows p q x (fault cause.Byte (at_of x) (number_at q.spot))

-- the order of precedence: the lower number, then the lower offset
abbrev pub Before : Fault → Fault → Type 0
Before f g =
    (cause_number f.cause < cause_number g.cause)
    ⊎ ((cause_number f.cause ≡ cause_number g.cause) × (f.offset ≤ g.offset))

-- the fault that decides: it shows at the first token that shows any, and comes before all others that show
-- there
pub record Decides (ts : List Token) (f : Fault) : Type 0 where
  pub before : List Token
  pub here : Token
  pub after : List Token
  pub is : ts ≡ before ++ here ∷ after
  pub place : State
  pub stands : Standing sale before place
  pub shows : Shows before place here f
  pub least : (g : Fault) → Shows before place here g → Before f g
  pub first : (p : List Token) (x : Token) (r : List Token) (q : State) (g : Fault) → before ≡ p ++ x ∷ r →
      Standing sale p q → Shows p q x g → ⊥
