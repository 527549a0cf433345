-- Why no plan is made. Assumes nothing.
use Rattle.std.specs.Prelude.{◌≡◌, ℕ, ◌⊎◌, List, [], ◌∷◌, None, Ok, Err, Option, Result}
use Rattle.digit_map.specs.declared.map.Map.{Map}
use Rattle.plans.specs.Coded as coded
use Rattle.plans.specs.Lots.{LotsRefused}
use Rattle.plancheck.specs.declared.stop.Stop.{Stop}
use Rattle.plancheck.specs.declared.stop.Stop.TheVariants.{Mapless, Refused, Memory}
use Rattle.plancheck.specs.Materials.{Material, the_map, the_lots, the_code, Fit, AllFit}
use Rattle.plancheck.specs.Stores.{Store}

-- memory lacked
abbrev pub ForMemory : Stop → Type 0
ForMemory Mapless = ⊥
ForMemory (Refused f) = ⊥
ForMemory (Memory e) = Unit {0}

-- no map is kept
abbrev pub ForMap : Option Map → Stop → Type 0
ForMap o Mapless = o ≡ None
ForMap o (Refused f) = ⊥
ForMap o (Memory e) = ⊥

-- the lots are refused, or memory lacked
abbrev pub ForLots : List ℕ → ℕ → Stop → Type 0
ForLots ns w Mapless = ⊥
ForLots ns w (Refused f) = LotsRefused ns w f
ForLots ns w (Memory e) = Unit {0}

-- the code is refused, or memory lacked
abbrev pub ForCode : List ℕ → Stop → Type 0
ForCode ks Mapless = ⊥
ForCode ks (Refused f) = coded.Refused ks f
ForCode ks (Memory e) = Unit {0}

-- why no plan can be made of what is kept
abbrev pub Unfit : Store → Material → Stop → Type 0
Unfit k the_map s = ForMap k.map s
Unfit k the_lots s = ForLots k.lots k.width s
Unfit k the_code s = ForCode k.code s

-- the first that is not fit says why no plan is made; memory may lack at any
abbrev pub FirstUnfit : Store → List Material → Stop → Type 0
FirstUnfit k [] s = ForMemory s
FirstUnfit k (m ∷ ms) s = Unfit k m s ⊎ (Fit k m × FirstUnfit k ms s)

module _ {X : Type 0} where
  -- a part was made of this: it comes about where this is fit, and else there is a reason
  abbrev pub Supplied : Store → Material → Result X Stop → Type 0
  Supplied k m (Ok x) = Fit k m
  Supplied k m (Err s) = Unfit k m s

  -- a plan was tried of all this: it comes about where all is fit, and else there is a reason
  abbrev pub Tried : Store → List Material → Result X Stop → Type 0
  Tried k ms (Ok x) = AllFit k ms
  Tried k ms (Err s) = FirstUnfit k ms s
