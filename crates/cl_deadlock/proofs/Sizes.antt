-- How many ranks and harts a state has that was reached from an image.
use Rattle.std.specs.Prelude.{ℕ, ◌≡◌, ◌≤◌, length, slice_get, Some}
use Rattle.std.proofs.Common.{arith}
use Rattle.rv_image_types.specs.declared.images.ImageParts.{ImageParts}
use Rattle.cl_state.specs.declared.state.RankState.{RankState}
use Rattle.cl_state.specs.Room.{rank_of}
use Rattle.cl_replay.specs.Below.{Cluster}
use Rattle.cl_replay.specs.declared.states.ClusterState.{ClusterState}
use Rattle.cl_deadlock_laws.proofs.Reached.{comes_reached, same_harts}
use Rattle.cl_deadlock.specs.Why.{IsStateOf}
use Rattle.cl_deadlock.proofs.Told.{count_is, own_at}

module _ (image : ImageParts) (state : ClusterState) (cluster : Cluster) (is : IsStateOf image state cluster) where
  pub few_ranks : length state.ranks.items ≤ 8
  few_ranks =
      let comes = comes_reached image is.reached.0 cluster is.reached.1 in
      let count = count_is image state cluster is.stands in
      let few = is.right.few_ranks in
      omega (arith, comes.count, count, few)

  pub few_harts : (r : ℕ) (own : RankState) → slice_get state.ranks.items r ≡ Some own → length own.harts.items ≤ 4
  few_harts r own here =
      let comes = comes_reached image is.reached.0 cluster is.reached.1 in
      let alone = comes.alone r (rank_of own) (own_at image state cluster is.stands r own here) in
      let count : length own.harts.items ≡ image.harts = same_harts image r alone.0 (rank_of own) alone.1 in
      let few = is.right.few_harts in
      omega (arith, count, few)
