-- What plans are made of, and when it is fit for a plan. Assumes nothing.
use Rattle.std.specs.Prelude.{◌≡◌, ℕ, ◌≤◌, List, [], ◌∷◌, length, Some}
use Rattle.digit_map.specs.declared.map.Map.{Map}
use Rattle.plans.specs.Coded.{Sized, Keys}
use Rattle.plans.specs.Lots.{GoodWidth}
use Rattle.plancheck.specs.declared.make.Make.{Make}
use Rattle.plancheck.specs.declared.make.Make.TheVariants as make
use Rattle.plancheck.specs.Stores.{Store}

-- a plan is made of the map, the lots or the code that is kept
pub data Material : Type 0 where
  the_map : Material
  the_lots : Material
  the_code : Material

-- what a make is made of, in the order in which it is tried
abbrev pub materials : Make → List Material
materials make.Map = the_map ∷ []
materials make.Lots = the_lots ∷ []
materials make.Pair = the_map ∷ the_lots ∷ []
materials make.Coded = the_map ∷ the_code ∷ []
materials make.CodedLots = the_lots ∷ the_code ∷ []
materials make.PairCoded = the_map ∷ the_lots ∷ the_code ∷ []
materials make.CodedPair = the_map ∷ the_lots ∷ the_code ∷ []

-- a code has 1 to 8 keys, each of them 0 to 15
abbrev pub FitCode : List ℕ → Type 0
FitCode ks = Sized ks × Keys ks

-- a plan can be made of it: there is a map; the width is 1 to 6, with at most 4,096 lots; the code is fit
abbrev pub Fit : Store → Material → Type 0
Fit k the_map = (m : Map) × (k.map ≡ Some m)
Fit k the_lots = GoodWidth k.width × (length k.lots ≤ 4096)
Fit k the_code = FitCode k.code

-- all of it is fit
abbrev pub AllFit : Store → List Material → Type 0
AllFit k [] = Unit {0}
AllFit k (m ∷ ms) = Fit k m × AllFit k ms
