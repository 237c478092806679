-- Harts that wait, of a state and of its cluster.
use Rattle.std.specs.Prelude.{ℕ, zero, suc, ◌≡◌, ◌<◌, ◌≤◌, List, [], ◌∷◌, length, get_or, slice_get}
use Rattle.std.specs.Prelude.{Some, None, option_map}
use Rattle.std.proofs.Common.{refl, ap, subst, ◌∙◌, arith, inl, inr}
use Rattle.std.proofs.lemmas.Bool.{cases_lt}
use Rattle.std.proofs.lemmas.Option.{slice_get-map}
use Rattle.rv_hart.specs.State.{State}
use Rattle.rv_image_types.specs.declared.images.ImageParts.{ImageParts}
use Rattle.mp_wait_laws.specs.Waits.{OnlyOf}
use Rattle.cl_state.specs.declared.state.RankState.{RankState}
use Rattle.cl_state.specs.Asked.{no_hart}
use Rattle.cl_state.specs.Rank.{Rank}
use Rattle.cl_state.specs.Room.{rank_of}
use Rattle.cl_state_laws.specs.Vain.{IsWaiting, mode_of}
use Rattle.cl_replay.specs.Below.{Cluster}
use Rattle.cl_replay.specs.declared.states.ClusterState.{ClusterState}
use Rattle.cl_replay.specs.States.{ClusterStandsFor}
use Rattle.cl_deadlock_laws.specs.Stuck.{SomeWaits, is_among}
use Rattle.cl_deadlock.proofs.Told.{own_at, rank_is}

past_harts : (harts : List State) (hart : ℕ) → length harts ≤ hart → get_or harts hart no_hart ≡ no_hart
past_harts [] hart past = refl
past_harts (h ∷ hs) zero past = absurd (omega (arith, past))
past_harts (h ∷ hs) (suc hart) past = past_harts hs hart (omega (arith, past))

-- a hart that waits is there
pub waits_within : (own : Rank) (hart : ℕ) → IsWaiting (mode_of own hart) → hart < length own.harts
waits_within own hart waits = elim (cases_lt hart (length own.harts)) [
  | inl inside ↦ inside
  | inr past ↦
      absurd (subst (λ (h : State). IsWaiting h.mode) (past_harts own.harts hart past) waits)
]

-- a hart of the cluster's rank waits
abbrev pub Waits : Cluster → ℕ → Type 0
Waits cluster r = (own : Rank) × (hart : ℕ) × (slice_get cluster.ranks r ≡ Some own) × IsWaiting (mode_of own hart)

abbrev pub HasWaiting : RankState → Type 0
HasWaiting own = (hart : ℕ) × IsWaiting (mode_of (rank_of own) hart)

module _ (image : ImageParts) (state : ClusterState) (cluster : Cluster) (stands : ClusterStandsFor image state cluster) where
  pub there : (r : ℕ) (own : RankState) → slice_get state.ranks.items r ≡ Some own → HasWaiting own
      → Waits cluster r
  there r own here has = (rank_of own, has.0, own_at image state cluster stands r own here, has.1)

  pub told : (r : ℕ) (own : RankState) → slice_get state.ranks.items r ≡ Some own → Waits cluster r → HasWaiting own
  told r own here waits =
      let is = rank_is image state cluster stands r own waits.0 here waits.2 in
      (waits.1, subst (λ (x : Rank). IsWaiting (mode_of x waits.1)) is waits.3)

  pub nobody : (r : ℕ) → slice_get state.ranks.items r ≡ None → Waits cluster r → ⊥
  nobody r none waits =
      let no : slice_get cluster.ranks r ≡ None =
      ap (λ (rs : List Rank). slice_get rs r) stands.ranks_are
      ∙ (slice_get-map rank_of state.ranks.items r ∙ ap (option_map rank_of) none) in
      let here = waits.2 in absurd (cc)

-- of some of whom one waits one of all does
pub waits_in : (some all : List ℕ) (cluster : Cluster) → OnlyOf (is_among all) (is_among some) → SomeWaits some cluster
    → SomeWaits all cluster
waits_in some all cluster within waits = record {
  r = waits.r;
  rank = waits.rank;
  hart = waits.hart;
  among = within waits.r waits.among;
  there = waits.there;
  waits = waits.waits;
}
