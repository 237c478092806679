-- Clusters whose harts are awake go as they do.
use Rattle.std.proofs.Common.{◌≡◌, ◌∙◌, ℕ, zero, suc, refl, sym, ap, subst, List, [], ◌∷◌, length, Some}
use Rattle.std.specs.Prelude.{map}
use Rattle.std.specs.List.{slice_get, slice_set}
use Rattle.std.specs.Option.{option_map}
use Rattle.std.proofs.lemmas.Option.{same_Some, slice_get-map}
use Rattle.rv_hart.specs.State.{State as Hart, in_mode}
use Rattle.rv_hart.specs.declared.state.Mode.{Mode}
use Rattle.rv_hart.specs.declared.state.Mode.TheVariants.{Running, Waiting, Ended, Trapped}
use Rattle.rv_hart.specs.declared.state.Wait.TheVariants.{Post, Again}
use Rattle.mp_alike_laws.specs.Renaming.{Renaming, number_by}
use Rattle.mp_source_laws.specs.Alike.{Wild}
use Rattle.cl_names_laws.specs.Named.{hart_by, mode_by, rank_by, rank_with}
use Rattle.cl_state.specs.Rank.{Rank}
use Rattle.cl_state_laws.specs.Awake.{awake, awake_hart, woken}
use Rattle.cl_state_laws.specs.VainLaws.{at_clock}
use Rattle.cl_machine.specs.Cluster.{Cluster}
use Rattle.cl_order_laws.specs.Alike.{AlikeRanks}
use Rattle.cl_first_laws.specs.Below.{AreAlike}
use Rattle.cl_reduction_laws.specs.Clusters.{awake_cluster}

-- ---- alike ranks are alike awake

module _ (names : Renaming) where
  hart_same : (h : Hart) → awake_hart (hart_by names h) ≡ hart_by names (awake_hart h)
  hart_same h = ap (in_mode h) (go h.mode)
    where
      go : (m : Mode) → woken (mode_by names m) ≡ mode_by names (woken m)
      go Running = refl
      go (Waiting Again) = refl
      go (Waiting (Post post)) = refl
      go (Ended value) = refl
      go (Trapped cause pc) = refl

  harts_same : (hs : List Hart) → map awake_hart (map (hart_by names) hs) ≡ map (hart_by names) (map awake_hart hs)
  harts_same [] = refl
  harts_same (h ∷ hs) = (λ i. hart_same h i ∷ harts_same hs i)

  pub with_same : (sends : ℕ → ℕ) (x : Rank) → awake (rank_with names sends x) ≡ rank_with names sends (awake x)
  with_same sends x = (λ i. record (rank_with names sends x) { harts = harts_same x.harts i })

  pub rank_same : (x : Rank) → awake (rank_by names x) ≡ rank_by names (awake x)
  rank_same = with_same (number_by names)

  pub ranks_awake : (x y : Rank) → AlikeRanks names x y → AlikeRanks names (awake x) (awake y)
  ranks_awake x y alike =
      (alike.0, ap awake alike.1 ∙ ap (λ z. at_clock z alike.0) (rank_same x))

-- what stands in a list of which each was changed
pub mapped : {A : Type 0} (f : A → A) (xs : List A) (i : ℕ) (x : A) → slice_get xs i ≡ Some x → slice_get (map f xs) i ≡ Some (f x)
mapped f xs i x here = slice_get-map f xs i ∙ ap (option_map f) here

pub from_mapped : {A : Type 0} (f : A → A) (xs : List A) (i : ℕ) (y : A) → slice_get (map f xs) i ≡ Some y
    → (x : A) × (slice_get xs i ≡ Some x) × (f x ≡ y)
from_mapped f [] i y here = absurd (cc)
from_mapped f (x ∷ xs) zero y here = (x, refl, same_Some (f x) y here)
from_mapped f (x ∷ xs) (suc i) y here = from_mapped f xs i y here

pub map_set : {A : Type 0} (f : A → A) (xs : List A) (i : ℕ) (x : A) → map f (slice_set xs i x) ≡ slice_set (map f xs) i (f x)
map_set f [] i x = refl
map_set f (y ∷ xs) zero x = refl
map_set f (y ∷ xs) (suc i) x = ap (λ l. f y ∷ l) (map_set f xs i x)

map_many : {A : Type 0} (f : A → A) (xs : List A) → length (map f xs) ≡ length xs
map_many f [] = refl
map_many f (x ∷ xs) = ap suc (map_many f xs)

pub clusters_awake : (wild : Wild) (a b : Cluster) → AreAlike wild a b → AreAlike wild (awake_cluster a) (awake_cluster b)
clusters_awake wild a b alike = (
  alike.0,
  record {
    ranks = record {
      many = map_many awake b.ranks ∙ (alike.1).ranks.many ∙ sym (map_many awake a.ranks);
      each = λ i x here.
          let f = from_mapped awake a.ranks i x here in
          let v = ((alike.1).ranks).each i f.0 f.1 in (
            awake v.0,
            mapped awake b.ranks i v.0 v.1,
            subst (λ z. AlikeRanks alike.0 z (awake v.0)) f.2 (ranks_awake alike.0 f.0 v.0 v.2),
          );
    };
    hubs = (alike.1).hubs;
    boxes = (alike.1).boxes;
  },
)
