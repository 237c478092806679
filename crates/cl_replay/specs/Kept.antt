-- What is kept of a state.
use Rattle.std.specs.Prelude.{ℕ, ◌≡◌, List, map, slice_get, slice_set, Some}
use Rattle.mp_hub.specs.Hub.{HubView}
use Rattle.part_box.specs.declared.settled.Settled.{Settled}
use Rattle.cl_state.specs.Rank.{Rank}
use Rattle.cl_state.specs.Room.{rank_of}
use Rattle.cl_state.specs.declared.state.RankState.{RankState}
use Rattle.cl_replay.specs.declared.states.ClusterState.{ClusterState}

-- the ranks, the hub, its clock and the boxes of a cluster, as they were at one time
pub record Snapshot : Type 0 where
  pub ranks : List Rank
  pub hub : HubView
  pub clock : ℕ
  pub boxes : List (List Settled)

-- what a state is now
abbrev pub snapshot : ClusterState → Snapshot
snapshot state = record {
  ranks = map rank_of state.ranks.items;
  hub = state.hub;
  clock = state.clock;
  boxes = state.boxes.items;
}

-- the ranks, the hub's clock and the boxes of a cluster, as they were at one time
pub record RanksAt : Type 0 where
  pub ranks : List Rank
  pub clock : ℕ
  pub boxes : List (List Settled)

-- with a hub they are a cluster
abbrev pub with_hub : RanksAt → HubView → Snapshot
with_hub at hub = record { ranks = at.ranks; hub = hub; clock = at.clock; boxes = at.boxes }

-- what a state is now beside its hub
abbrev pub ranks_at : ClusterState → RanksAt
ranks_at state = record { ranks = map rank_of state.ranks.items; clock = state.clock; boxes = state.boxes.items }

-- what a state is now beside its hub, but that its ranks are others beside the one of this number
pub record IsBeside (state : ClusterState) (others : List Rank) (rank : ℕ) (kept : RanksAt) : Type 0 where
  pub ranks : (own : RankState) → slice_get state.ranks.items rank ≡ Some own
      → kept.ranks ≡ slice_set others rank (rank_of own)
  pub clock : kept.clock ≡ state.clock
  pub boxes : kept.boxes ≡ state.boxes.items

-- the rank of this number is what was kept of it, and so is what is no rank; the other ranks stayed
pub record IsRestored (kept : Snapshot) (old : ClusterState) (rank : ℕ) (new : ClusterState) : Type 0 where
  pub ranks : (own : Rank) → slice_get kept.ranks rank ≡ Some own
      → map rank_of new.ranks.items ≡ slice_set (map rank_of old.ranks.items) rank own
  pub hub : new.hub ≡ kept.hub
  pub clock : new.clock ≡ kept.clock
  pub boxes : new.boxes.items ≡ kept.boxes
