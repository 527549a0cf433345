-- There is one reason at most why no plan is made. Assumes nothing.
use Rattle.std.proofs.Common.{◌≡◌, ℕ, List, [], ◌∷◌, sym, refl, ◌∙◌, inl, inr, arith}
use Rattle.plans.specs.Coded as coded
use Rattle.plans.specs.Lots.{LotsRefused}
use Rattle.plans.specs.declared.refusal.Refusal.{Refusal}
use Rattle.plans.specs.declared.refusal.Refusal.TheVariants.{CodeLength, CodeKey, Width, Lots}
use Rattle.plancheck.specs.declared.stop.Stop.{Stop}
use Rattle.plancheck.specs.declared.stop.Stop.TheVariants.{Mapless, Refused, Memory}
use Rattle.plancheck.specs.Materials.{Material, the_map, the_lots, the_code, Fit, AllFit}
use Rattle.plancheck.specs.Outcomes.{StopTold}
use Rattle.plancheck.specs.Stops.{Unfit, FirstUnfit}
use Rattle.plancheck.specs.Stores.{Store}

-- one refusal of lots
lots_one : (ns : List ℕ) (w : ℕ) (f g : Refusal) → LotsRefused ns w f → LotsRefused ns w g → f ≡ g
lots_one ns w CodeLength g h k = absurd h
lots_one ns w CodeKey g h k = absurd h
lots_one ns w Width CodeLength h k = absurd k
lots_one ns w Width CodeKey h k = absurd k
lots_one ns w Width Width h k = refl
lots_one ns w Width Lots h k = absurd (h k.0)
lots_one ns w Lots CodeLength h k = absurd k
lots_one ns w Lots CodeKey h k = absurd k
lots_one ns w Lots Width h k = absurd (k h.0)
lots_one ns w Lots Lots h k = refl

-- one refusal of a code
code_one : (ks : List ℕ) (f g : Refusal) → coded.Refused ks f → coded.Refused ks g → f ≡ g
code_one ks CodeLength CodeLength h k = refl
code_one ks CodeLength CodeKey h k = absurd (h k.0)
code_one ks CodeLength Width h k = absurd k
code_one ks CodeLength Lots h k = absurd k
code_one ks CodeKey CodeLength h k = absurd (k h.0)
code_one ks CodeKey CodeKey h k = refl
code_one ks CodeKey Width h k = absurd k
code_one ks CodeKey Lots h k = absurd k
code_one ks Width g h k = absurd h
code_one ks Lots g h k = absurd h

module _ (k : Store) where
  -- what is fit is not refused
  fit_unfit : (n : Material) (s : Stop) (x : List ℕ) → Fit k n → Unfit k n s → StopTold s x → ⊥
  fit_unfit the_map Mapless x h u t = let z : ◌≡◌ {A = ℕ} 0 1 = cc (h.1, u) in omega arith
  fit_unfit the_map (Refused f) x h u t = u
  fit_unfit the_map (Memory e) x h u t = u
  fit_unfit the_lots Mapless x h u t = u
  fit_unfit the_lots (Refused CodeLength) x h u t = u
  fit_unfit the_lots (Refused CodeKey) x h u t = u
  fit_unfit the_lots (Refused Width) x h u t = u h.0
  fit_unfit the_lots (Refused Lots) x h u t = omega (arith, h.1, u.1)
  fit_unfit the_lots (Memory e) x h u t = t
  fit_unfit the_code Mapless x h u t = u
  fit_unfit the_code (Refused CodeLength) x h u t = u h.0
  fit_unfit the_code (Refused CodeKey) x h u t = u.1 h.1
  fit_unfit the_code (Refused Width) x h u t = u
  fit_unfit the_code (Refused Lots) x h u t = u
  fit_unfit the_code (Memory e) x h u t = t

  -- one reason is told of what is not fit
  unfit_one : (n : Material) (s r : Stop) (x y : List ℕ) → Unfit k n s → Unfit k n r → StopTold s x →
      StopTold r y → x ≡ y
  unfit_one the_map Mapless Mapless x y h u t v = t ∙ sym v
  unfit_one the_map Mapless (Refused g) x y h u t v = absurd u
  unfit_one the_map Mapless (Memory e) x y h u t v = absurd v
  unfit_one the_map (Refused f) r x y h u t v = absurd h
  unfit_one the_map (Memory e) r x y h u t v = absurd t
  unfit_one the_lots Mapless r x y h u t v = absurd h
  unfit_one the_lots (Memory e) r x y h u t v = absurd t
  unfit_one the_lots (Refused f) Mapless x y h u t v = absurd u
  unfit_one the_lots (Refused f) (Memory e) x y h u t v = absurd v
  unfit_one the_lots (Refused f) (Refused g) x y h u t v =
      let same = lots_one k.lots k.width f g h u in cc (t, v, same)
  unfit_one the_code Mapless r x y h u t v = absurd h
  unfit_one the_code (Memory e) r x y h u t v = absurd t
  unfit_one the_code (Refused f) Mapless x y h u t v = absurd u
  unfit_one the_code (Refused f) (Memory e) x y h u t v = absurd v
  unfit_one the_code (Refused f) (Refused g) x y h u t v =
      let same = code_one k.code f g h u in cc (t, v, same)

  none_told : (s : Stop) (x : List ℕ) → FirstUnfit k [] s → StopTold s x → ⊥
  none_told Mapless x h t = h
  none_told (Refused f) x h t = h
  none_told (Memory e) x h t = t

  -- where all is fit no reason is told
  pub all_first : (ms : List Material) (s : Stop) (x : List ℕ) → AllFit k ms → FirstUnfit k ms s →
      StopTold s x → ⊥
  all_first [] s x h u t = none_told s x u t
  all_first (m ∷ ms) s x h (inl u) t = fit_unfit m s x h.0 u t
  all_first (m ∷ ms) s x h (inr u) t = all_first ms s x h.1 u.1 t

  -- one reason is told
  pub first_one : (ms : List Material) (s r : Stop) (x y : List ℕ) → FirstUnfit k ms s → FirstUnfit k ms r →
      StopTold s x → StopTold r y → x ≡ y
  first_one [] s r x y h u t v = absurd (none_told s x h t)
  first_one (m ∷ ms) s r x y (inl h) (inl u) t v = unfit_one m s r x y h u t v
  first_one (m ∷ ms) s r x y (inl h) (inr u) t v = absurd (fit_unfit m s x u.0 h t)
  first_one (m ∷ ms) s r x y (inr h) (inl u) t v = absurd (fit_unfit m r y h.0 u v)
  first_one (m ∷ ms) s r x y (inr h) (inr u) t v = first_one ms s r x y h.1 u.1 t v
