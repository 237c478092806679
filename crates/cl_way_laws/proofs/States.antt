-- Clusters on the way, each with the cluster in which all has arrived.
use Rattle.std.proofs.Common.{◌≡◌, ◌∙◌, ℕ, inl, inr, refl, sym, subst, List, [], ◌∷◌, ◌++◌, Some}
use Rattle.std.specs.List.{slice_get, slice_set}
use Rattle.std.proofs.lemmas.Bool.{cases_eq}
use Rattle.rv_image_types.specs.declared.images.ImageParts.{ImageParts}
use Rattle.rv_image_types.specs.declared.images.Link.{Link}
use Rattle.mp_types.specs.declared.requests.Request.{Request}
use Rattle.mp_match.specs.declared.posts.Sent.{Sent}
use Rattle.mp_wait_laws.proofs.Sets.{get-set_other}
use Rattle.mp_way_laws.specs.Way.{IsNext, WayView, arrival}
use Rattle.mp_way_laws.specs.Runs.{Event, HappenOn, Happens, NameSources, NamesSource, arrives, call}
use Rattle.mp_way_laws.specs.Laws.{IsCameTo}
use Rattle.mp_way_laws.specs.Answers.{behind}
use Rattle.cl_state.specs.Rank.{Rank}
use Rattle.cl_machine.specs.Cluster.{Cluster}
use Rattle.cl_order_laws.proofs.Each.{was_there}
use Rattle.cl_reduction_laws.specs.Clusters.{IsGood, Search, State}
use Rattle.cl_contest_laws.proofs.Homes.{AreHome}
use Rattle.cl_way_laws.specs.Clusters.{IsArrived, WayCluster}
use Rattle.cl_way_laws.proofs.Named.{NamesApart}

-- ---- one rank of a list

-- what holds of the rank that is set, and of each other one, holds of all
pub each_in : (P : ℕ → Rank → Type 0) (xs : List Rank) (r : ℕ) (z : Rank) → P r z
    → ((s : ℕ) (x : Rank) → slice_get xs s ≡ Some x → P s x)
    → (s : ℕ) (x : Rank) → slice_get (slice_set xs r z) s ≡ Some x → P s x
each_in P xs r z mine others s x here = elim (cases_eq r s) [
  | inl same ↦
      let w = was_there xs r z x (subst (λ k. slice_get (slice_set xs r z) k ≡ Some x) (sym same) here) in
      subst (λ k. P k x) same (subst (P r) w.0 mine)
  | inr other ↦ others s x (sym (get-set_other xs r s z other) ∙ here)
]

-- ---- what led to a hub

happened : (es : List Event) (e : Event) (a b c : WayView) → HappenOn a es b → Happens b e c
    → HappenOn a (es ++ e ∷ []) c
happened [] e a b c on one = (c, subst (λ v. Happens v e c) on one, refl)
happened (x ∷ es) e a b c on one = (on.0, on.1, happened es e on.0 b c on.2 one)

named_too : (es fs : List Event) → NameSources es → NameSources fs → NameSources (es ++ fs)
named_too [] fs one two = two
named_too (call rank q ∷ es) fs one two = (one.0, named_too es fs one.1 two)
named_too (arrives place sent ∷ es) fs one two = named_too es fs one two

pub came_by_call : (links : List Link) (w : WayView) (r : ℕ) (q : Request) → NamesSource q → IsCameTo links w
    → IsCameTo links (behind w r q)
came_by_call links w r q named came = record {
  events = came.events ++ call r q ∷ [];
  on = happened came.events (call r q) _ w (behind w r q) came.on refl;
  named = named_too came.events (call r q ∷ []) came.named (named, tt);
}

pub came_by_arrival : (links : List Link) (w : WayView) (place : ℕ) (sent : Sent) → IsNext w place sent
    → IsCameTo links w
    → IsCameTo links (arrival w place sent)
came_by_arrival links w place sent next came = record {
  events = came.events ++ arrives place sent ∷ [];
  on = happened came.events (arrives place sent) _ w (arrival w place sent) came.on (next, refl);
  named = named_too came.events (arrives place sent ∷ []) came.named tt;
}

-- ---- states

-- a cluster on the way, and one in which all has arrived
pub record WayState (search : Search) (image : ImageParts) : Type 0 where
  pub now : WayCluster
  pub state : State search
  pub arrived : IsArrived now state.cluster
  pub came : IsCameTo image.links now.way
  pub home : AreHome image state.cluster
  -- each rank's requests name each post once
  pub apart : (r : ℕ) (rank : Rank) → slice_get now.ranks r ≡ Some rank → NamesApart rank.requests

-- where all has arrived
pub record Behind (search : Search) (v : WayCluster) : Type 0 where
  pub cluster : Cluster
  pub arrived : IsArrived v cluster
  pub good : IsGood search cluster
