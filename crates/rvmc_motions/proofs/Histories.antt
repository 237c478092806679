-- The history of a record: it is there, and what a state shows is its place in it.
use Rattle.std.specs.Prelude.{ℕ, zero, suc, ◌≡◌, ◌≤◌, List, [], ◌∷◌, length, take, slice_get, Some, None, option_map}
use Rattle.std.proofs.Common.{refl, sym, subst, ap, ◌∙◌}
use Rattle.std.proofs.Math.Seq.{take-length}
use Rattle.std.proofs.lemmas.Option.{slice_get-map}
use Rattle.rv_image_types.specs.declared.images.ImageParts.{ImageParts}
use Rattle.cl_state.specs.Rank.{Rank}
use Rattle.cl_state.specs.Room.{rank_of}
use Rattle.cl_state.specs.declared.state.RankState.{RankState}
use Rattle.cl_machine.specs.Cluster.{Cluster, IsRun, loaded_cluster}
use Rattle.cl_machine.specs.declared.steps.Step.{Step}
use Rattle.cl_machine.proofs.Tables.{one_end}
use Rattle.cl_replay.specs.declared.states.ClusterState.{ClusterState}
use Rattle.cl_replay.specs.Replaying.{IsReached}
use Rattle.cl_replay.specs.Replays.{IsRunUpTo}
use Rattle.rvmc_motions.specs.Laws.{HistoryLaw}
use Rattle.rvmc_motions.specs.Turns.{IsHistory}

-- the first steps of a run are one
prefix : (start end : Cluster) (es : List Step) → IsRun start es end → (n : ℕ)
    → (mid : Cluster) × IsRun start (take n es) mid
prefix start end es run zero = (start, refl)
prefix start end [] run (suc n) = (start, refl)
prefix start end (e ∷ es) run (suc n) =
    let rest = prefix run.0 end es run.2 n in (rest.0, (run.0, run.1, rest.1))

module _ (image : ImageParts) (steps : List Step) (run : IsRunUpTo image steps (length steps)) where
  whole : IsRun (loaded_cluster image) steps run.0
  whole = subst (λ es. IsRun (loaded_cluster image) es run.0) (take-length steps) run.1

  at : (n : ℕ) → (mid : Cluster) × IsRun (loaded_cluster image) (take n steps) mid
  at n = prefix (loaded_cluster image) run.0 steps whole n

  there : (history : ℕ → Cluster) × IsHistory image steps history
  there = (
    (λ n. (at n).0),
    (λ n cluster here. one_end (loaded_cluster image) cluster (at n).0 (take n steps) here.1 (at n).1),
  )

  one : (a b : ℕ → Cluster) (n : ℕ) → n ≤ length steps → IsHistory image steps a → IsHistory image steps b → a n ≡ b n
  one a b n within first second =
      sym (first n (at n).0 (within, (at n).1)) ∙ second n (at n).0 (within, (at n).1)

pub history_law : HistoryLaw
history_law = record {
  there = λ image steps run. there image steps run;
  one = λ image steps a b n run within first second. one image steps run a b n within first second;
}

-- the rank of a state at a place
own_rank : (image : ImageParts) (steps : List Step) (n : ℕ) (state : ClusterState) (rank : ℕ) (history : ℕ → Cluster)
    → IsReached image steps n state → n ≤ length steps → IsHistory image steps history
    → slice_get (history n).ranks rank ≡ option_map rank_of (slice_get state.ranks.items rank)
own_rank image steps n state rank history reached within is =
    ap (λ (c : Cluster). slice_get c.ranks rank) (sym (is n reached.cluster (within, reached.run)))
    ∙ ap (λ (xs : List Rank). slice_get xs rank) (reached.stands).ranks_are ∙ slice_get-map rank_of state.ranks.items rank

pub own_some : (image : ImageParts) (steps : List Step) (n : ℕ) (state : ClusterState) (rank : ℕ) (history : ℕ → Cluster)
    (own : RankState) → IsReached image steps n state → n ≤ length steps → IsHistory image steps history
    → slice_get state.ranks.items rank ≡ Some own → slice_get (history n).ranks rank ≡ Some (rank_of own)
own_some image steps n state rank history own reached within is there =
    own_rank image steps n state rank history reached within is ∙ ap (option_map rank_of) there

-- or none, where the state has none
pub own_none : (image : ImageParts) (steps : List Step) (n : ℕ) (state : ClusterState) (rank : ℕ) (history : ℕ → Cluster)
    → IsReached image steps n state → n ≤ length steps → IsHistory image steps history
    → slice_get state.ranks.items rank ≡ None → slice_get (history n).ranks rank ≡ None
own_none image steps n state rank history reached within is none =
    own_rank image steps n state rank history reached within is ∙ ap (option_map rank_of) none
