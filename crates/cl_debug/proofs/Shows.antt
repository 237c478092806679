-- What a state shows of the cluster that it stands for.
use Rattle.std.specs.Prelude.{ℕ, ◌<◌, ◌≤◌, ◌≡◌, List, length, slice_get, take, option_map, Some}
use Rattle.std.proofs.Common.{refl, sym, subst, ap, ◌∙◌, arith, get_or}
use Rattle.std.proofs.lemmas.List.{length-map}
use Rattle.std.proofs.lemmas.Option.{same_Some, slice_get-map, slice_get_read}
use Rattle.rv_hart.specs.State.{State}
use Rattle.rv_memory.specs.Access.{IsReadable}
use Rattle.rv_image_types.specs.declared.images.ImageParts.{ImageParts}
use Rattle.cl_state.specs.Rank.{Rank}
use Rattle.cl_state.specs.Room.{rank_of}
use Rattle.cl_state.specs.declared.state.RankState.{RankState}
use Rattle.cl_machine.specs.Cluster.{Cluster, loaded_cluster}
use Rattle.cl_machine.specs.declared.steps.Step.{Step}
use Rattle.cl_machine.proofs.Tables.{one_end}
use Rattle.cl_replay.specs.declared.states.ClusterState.{ClusterState}
use Rattle.cl_replay.specs.Replaying.{IsReached}
use Rattle.cl_debug.specs.Places.{IsAt, IsHartOf}
use Rattle.cl_debug.proofs.Ranks.{run_sized}

module _ (image : ImageParts) (steps : List Step) (n : ℕ) (state : ClusterState) (reached : IsReached image
    steps n state) where
  pub ranks_count : length state.ranks.items ≡ image.ranks
  ranks_count =
      let sized = run_sized image (take n steps) reached.cluster reached.run in
      sym (length-map state.ranks.items rank_of) ∙ sym (ap length (reached.stands).ranks_are) ∙ sized.count

  -- a rank's state is the rank of the cluster
  pub rank_here : (r : ℕ) (s : RankState) → slice_get state.ranks.items r ≡ Some s
      → slice_get (reached.cluster).ranks r ≡ Some (rank_of s)
  rank_here r s at =
      ap (λ (xs : List Rank). slice_get xs r) (reached.stands).ranks_are ∙ slice_get-map rank_of state.ranks.items r
      ∙ ap (option_map rank_of) at

  pub harts_count : (r : ℕ) (s : RankState) → slice_get state.ranks.items r ≡ Some s
      → length s.harts.items ≡ image.harts
  harts_count r s at =
      let sized = run_sized image (take n steps) reached.cluster reached.run in sized.harts r (rank_of s)
      (rank_here r s at)

  -- and there is no other cluster at the place
  same_cluster : (cluster : Cluster) → IsAt image steps n cluster → reached.cluster ≡ cluster
  same_cluster cluster at = one_end (loaded_cluster image) reached.cluster cluster (take n steps) reached.run at.1

  pub rank_at : (r : ℕ) (s : RankState) → slice_get state.ranks.items r ≡ Some s → (cluster : Cluster)
      → IsAt image steps n cluster → slice_get cluster.ranks r ≡ Some (rank_of s)
  rank_at r s there cluster at =
      subst (λ (c : Cluster). slice_get c.ranks r ≡ Some (rank_of s)) (same_cluster cluster at) (rank_here r s there)

  pub shows_hart : (r h : ℕ) (s : RankState) (hart : State) → slice_get state.ranks.items r ≡ Some s
      → slice_get s.harts.items h ≡ Some hart → (cluster : Cluster) → IsAt image steps n cluster
      → IsHartOf cluster r h hart
  shows_hart r h s hart rank_there hart_there cluster at = record {
    owner = rank_of s;
    rank_there = rank_at r s rank_there cluster at;
    hart_there = hart_there;
  }

  -- what is read at a number
  pub owner_there : (r k : ℕ) (s : RankState) → k ≡ r → r < image.ranks → s ≡ get_or state.ranks.items k s
      → slice_get state.ranks.items r ≡ Some s
  owner_there r k s same low is =
      let count = ranks_count in
      slice_get_read state.ranks.items (length state.ranks.items) r s refl (omega (arith, count, low))
      (subst (λ j. s ≡ get_or state.ranks.items j s) same is)

  pub hart_there : (r h k : ℕ) (s : RankState) (hart : State) → slice_get state.ranks.items r ≡ Some s → k ≡ h
      → h < image.harts → hart ≡ get_or s.harts.items k hart → slice_get s.harts.items h ≡ Some hart
  hart_there r h k s hart there same low is =
      let count = harts_count r s there in
      slice_get_read s.harts.items (length s.harts.items) h hart refl (omega (arith, count, low))
      (subst (λ j. hart ≡ get_or s.harts.items j hart) same is)

  -- bytes are outside in every cluster at the place where they are in the state's
  pub outside_here : (r address count : ℕ) (s : RankState) → n ≤ length steps → slice_get state.ranks.items r ≡ Some s
      → ((cluster : Cluster) (owner : Rank) → IsAt image steps n cluster → slice_get cluster.ranks r ≡ Some owner
      → ¬ (IsReadable owner.memory address count))
      → ¬ (IsReadable s.memory address count)
  outside_here r address count s within there outside =
      outside reached.cluster (rank_of s) (within, reached.run) (rank_here r s there)

  pub outside_all : (r address count : ℕ) (s : RankState) → slice_get state.ranks.items r ≡ Some s
      → ¬ (IsReadable s.memory address count)
      → (cluster : Cluster) (owner : Rank) → IsAt image steps n cluster → slice_get cluster.ranks r ≡ Some owner
      → ¬ (IsReadable owner.memory address count)
  outside_all r address count s there outside cluster owner at owner_at =
      let same = same_Some (rank_of s) owner (sym (rank_at r s there cluster at) ∙ owner_at) in
      subst (λ (x : Rank). ¬ (IsReadable x.memory address count)) same outside
