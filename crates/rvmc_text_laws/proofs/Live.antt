-- Of alike ranks the same have stopped, so a verdict names the same.
use Rattle.std.proofs.Common.{◌≡◌, ◌∙◌, ℕ, zero, suc, refl, ap, arith, not, List, [], ◌∷◌, map}
use Rattle.std.specs.Prelude.{◌||◌}
use Rattle.std.specs.List.{list_any, slice_get}
use Rattle.rv_hart.specs.State.{State, is_stopped}
use Rattle.rv_hart.specs.declared.state.Mode.{Mode}
use Rattle.rv_hart.specs.declared.state.Mode.TheVariants.{Running, Waiting, Ended, Trapped}
use Rattle.mp_alike_laws.specs.Renaming.{Renaming}
use Rattle.cl_state.specs.Rank.{Rank}
use Rattle.cl_names_laws.specs.Named.{hart_by, mode_by}
use Rattle.cl_order_laws.specs.Alike.{AlikeRanks, AreEach}
use Rattle.rvmc_inspect.specs.Why.{is_live}
use Rattle.rvmc_inspect.proofs.Live.{is_live_in}

module _ (names : Renaming) where
  stopped_by : (m : Mode) → is_stopped (mode_by names m) ≡ is_stopped m
  stopped_by Running = refl
  stopped_by (Waiting w) = refl
  stopped_by (Ended code) = refl
  stopped_by (Trapped cause at) = refl

  harts_by : (harts : List State)
      → list_any (λ hart. not (is_stopped hart.mode)) (map (hart_by names) harts)
      ≡ list_any (λ hart. not (is_stopped hart.mode)) harts
  harts_by [] = refl
  harts_by (hart ∷ harts) = λ i. not (stopped_by hart.mode i) || harts_by harts i

  rank_same : (x y : Rank) → AlikeRanks names x y → is_live y ≡ is_live x
  rank_same x y both = ap is_live both.1 ∙ harts_by x.harts

  pub live_same : (xs ys : List Rank) → AreEach (AlikeRanks names) xs ys → (r : ℕ)
      → is_live_in (slice_get ys r) ≡ is_live_in (slice_get xs r)
  live_same [] [] same r = refl
  live_same [] (y ∷ ys) same r = absurd (omega (arith, same.many))
  live_same (x ∷ xs) [] same r = absurd (omega (arith, same.many))
  live_same (x ∷ xs) (y ∷ ys) same zero =
      let v = same.each 0 x refl in ap is_live_in v.1 ∙ rank_same x v.0 v.2
  live_same (x ∷ xs) (y ∷ ys) same (suc r) =
      live_same xs ys (record { many = omega (arith, same.many); each = λ i z at. same.each (suc i) z at }) r
