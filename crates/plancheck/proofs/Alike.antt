-- Stores that differ at most in how their maps are held. Assumes nothing.
use Rattle.std.proofs.Common.{◌≡◌, ℕ, ◌≤◌, List, [], ◌∷◌, length, Some, None, Option, refl, subst, inl, inr, arith}
use Rattle.keypad.specs.Entries.{Entries}
use Rattle.keypad.specs.Sets.{Same}
use Rattle.digit_map.specs.Maps.{places}
use Rattle.digit_map.specs.Meaning.{MapEntry}
use Rattle.digit_map.specs.declared.map.Map.{Map}
use Rattle.digit_map.specs.declared.node.Node.{Node}
use Rattle.keypad.proofs.Sames.{same_refl}
use Rattle.plans.specs.Lots.{GoodWidth, listed}
use Rattle.plans.specs.Pairs.{Either}
use Rattle.plans.proofs.Pairs.{either_same}
use Rattle.plancheck.specs.declared.make.Make.{Make}
use Rattle.plancheck.specs.declared.make.Make.TheVariants as make
use Rattle.plancheck.specs.declared.stop.Stop.{Stop}
use Rattle.plancheck.specs.declared.stop.Stop.TheVariants.{Mapless, Refused, Memory}
use Rattle.plancheck.specs.Makes.{mapped, map_entries, lot_entries, coded_entries, entries_of}
use Rattle.plancheck.specs.Materials.{Material, the_map, the_lots, the_code, FitCode, Fit, AllFit}
use Rattle.plancheck.specs.Stops.{ForMap, ForLots, ForCode, Unfit, FirstUnfit}
use Rattle.plancheck.specs.Stores.{Store}
use Rattle.plancheck.proofs.Told.{coded_same}

-- both maps are missing, or both have the same places
abbrev pub LikeMap : Option Map → Option Map → Type 0
LikeMap None None = Unit {0}
LikeMap None (Some n) = ⊥
LikeMap (Some m) None = ⊥
LikeMap (Some m) (Some n) = places m ≡ places n

pub record Alike (k l : Store) : Type 0 where
  pub map : LikeMap k.map l.map
  pub width : k.width ≡ l.width
  pub lots : k.lots ≡ l.lots
  pub code : k.code ≡ l.code

like_self : (o : Option Map) → LikeMap o o
like_self None = tt
like_self (Some m) = refl

pub alike_self : (k : Store) → Alike k k
alike_self k = record { map = like_self k.map; width = refl; lots = refl; code = refl }

-- maps that are alike have the same entries
mapped_alike : (o p : Option Map) → LikeMap o p → Same (mapped o) (mapped p)
mapped_alike None None h = same_refl (mapped None)
mapped_alike None (Some n) h = absurd h
mapped_alike (Some m) None h = absurd h
mapped_alike (Some m) (Some n) h =
    subst (λ (ns : List Node). Same (mapped (Some m)) (MapEntry ns)) h (same_refl (mapped (Some m)))

lots_alike : (ns ms : List ℕ) (w v : ℕ) → ns ≡ ms → w ≡ v → Same (listed ns w) (listed ms v)
lots_alike ns ms w v e f =
    subst (λ (x : List ℕ). Same (listed ns w) (listed x v)) e
    (subst (λ x. Same (listed ns w) (listed ns x)) f (same_refl (listed ns w)))

some_alike : (o p : Option Map) → LikeMap o p → (m : Map) × (o ≡ Some m) → (n : Map) × (p ≡ Some n)
some_alike None None h x = absurd (let z : ◌≡◌ {A = ℕ} 0 1 = cc x.1 in omega arith)
some_alike None (Some n) h x = absurd h
some_alike (Some m) None h x = absurd h
some_alike (Some m) (Some n) h x = (n, refl)

none_alike : (o p : Option Map) (s : Stop) → LikeMap o p → ForMap o s → ForMap p s
none_alike None None s h x = x
none_alike None (Some n) s h x = absurd h
none_alike (Some m) None s h x = absurd h
none_alike (Some m) (Some n) Mapless h x = absurd (let z : ◌≡◌ {A = ℕ} 0 1 = cc x in omega arith)
none_alike (Some m) (Some n) (Refused f) h x = x
none_alike (Some m) (Some n) (Memory e) h x = x

module _ (k l : Store) (a : Alike k l) where
  same_map : Same (map_entries k) (map_entries l)
  same_map = mapped_alike k.map l.map a.map

  same_lots : Same (lot_entries k) (lot_entries l)
  same_lots = lots_alike k.lots l.lots k.width l.width a.lots a.width

  same_coded : (x y : Entries) → Same x y → Same (coded_entries k x) (coded_entries l y)
  same_coded x y s = coded_same k.code l.code x y a.code s

  -- what is alike makes plans of the same entries
  pub entries_alike : (m : Make) → Same (entries_of k m) (entries_of l m)
  entries_alike make.Map = same_map
  entries_alike make.Lots = same_lots
  entries_alike make.Pair =
      either_same (map_entries k) (lot_entries k) (map_entries l) (lot_entries l) same_map same_lots
  entries_alike make.Coded = same_coded (map_entries k) (map_entries l) same_map
  entries_alike make.CodedLots = same_coded (lot_entries k) (lot_entries l) same_lots
  entries_alike make.PairCoded =
      either_same (map_entries k) (coded_entries k (lot_entries k)) (map_entries l)
      (coded_entries l (lot_entries l)) same_map (same_coded (lot_entries k) (lot_entries l) same_lots)
  entries_alike make.CodedPair =
      same_coded (Either (map_entries k) (lot_entries k)) (Either (map_entries l) (lot_entries l))
      (either_same (map_entries k) (lot_entries k) (map_entries l) (lot_entries l) same_map same_lots)

  fit_alike : (n : Material) → Fit k n → Fit l n
  fit_alike the_map h = some_alike k.map l.map a.map h
  fit_alike the_lots h =
      (subst GoodWidth a.width h.0, subst (λ (ns : List ℕ). length ns ≤ 4096) a.lots h.1)
  fit_alike the_code h = subst FitCode a.code h

  unfit_alike : (n : Material) (s : Stop) → Unfit k n s → Unfit l n s
  unfit_alike the_map s h = none_alike k.map l.map s a.map h
  unfit_alike the_lots s h =
      subst (λ (ns : List ℕ). ForLots ns l.width s) a.lots
      (subst (λ w. ForLots k.lots w s) a.width h)
  unfit_alike the_code s h = subst (λ (ks : List ℕ). ForCode ks s) a.code h

  -- what is alike is fit for the same
  pub all_alike : (ms : List Material) → AllFit k ms → AllFit l ms
  all_alike [] h = tt
  all_alike (m ∷ ms) h = (fit_alike m h.0, all_alike ms h.1)

  -- and not fit for the same reason
  pub first_alike : (ms : List Material) (s : Stop) → FirstUnfit k ms s → FirstUnfit l ms s
  first_alike [] s h = h
  first_alike (m ∷ ms) s (inl h) = inl (unfit_alike m s h)
  first_alike (m ∷ ms) s (inr h) = inr (fit_alike m h.0, first_alike ms s h.1)
