-- What a replay of a record's events shows.
use Rattle.std.specs.Prelude.{ℕ, ◌≡◌, List, length, map, Some}
use Rattle.rv_image_types.specs.declared.images.ImageParts.{ImageParts}
use Rattle.rv_image_types.specs.declared.images.ImageVersion.{ImageVersion}
use Rattle.mp_hub.specs.Outcomes.{StandsFor as HubStandsFor}
use Rattle.part_box.specs.declared.settled.Settled.{Settled}
use Rattle.cl_journal.specs.Journal.{stamp_after, calls_of}
use Rattle.cl_state.specs.Room.{rank_of}
use Rattle.cl_machine.specs.Cluster.{Cluster, IsRun, loaded_cluster}
use Rattle.cl_machine.specs.Merge.{IsMerge}
use Rattle.cl_machine.specs.declared.steps.Step.{Step}
use Rattle.cl_machine.specs.Keys.{bytes_in}
use Rattle.cl_record.specs.Records.{IsEndOf, IsMergedRun, steps_in}
use Rattle.cl_record.specs.declared.records.Record.{Record}
use Rattle.cl_replay.specs.declared.states.ClusterState.{ClusterState}
use Rattle.cl_replay.specs.Boxes.{settled_at}
use Rattle.cl_replay.specs.Replaying.{IsReached}
use Rattle.cl_replay.specs.InnerReplaying.{BreaksAt}

-- both boxes are full, or both are empty, since the same stamp, and with the same bytes
abbrev pub AreAlike : ImageVersion → Settled → Settled → Type 0
AreAlike version a b =
    (a.full ≡ b.full) × (a.stamp ≡ b.stamp) × (bytes_in version a.words ≡ bytes_in version b.words)

-- the state shows what the record kept: its ranks, a hub of its journal's calls, the journal's clock, and its boxes
pub record ShowsRecord (image : ImageParts) (left : Record) (state : ClusterState) : Type 0 where
  pub ranks_are : map rank_of state.ranks.items ≡ map rank_of left.ranks.items
  pub hub_stands : HubStandsFor state.hub image.links (calls_of left.journal.items)
  pub clock_is : state.clock ≡ stamp_after 0 left.journal.items
  pub links_are : length state.boxes.items ≡ length left.boxes.items
  pub boxes_alike : (number : ℕ) (shown : Settled) → settled_at state.boxes.items number ≡ Some shown
      → (kept : Settled) × (settled_at left.boxes.items number ≡ Some kept) × AreAlike image.version shown kept

-- the steps lead to where the record ended, none of them breaks, and a state that the last one reaches shows the
-- record
pub record ReplaysTo (image : ImageParts) (steps : List Step) (left : Record) : Type 0 where
  pub final : Cluster
  pub run : IsRun (loaded_cluster image) steps final
  pub end : IsEndOf image left final
  pub unbroken : (k : ℕ) → ¬ BreaksAt image steps k
  pub shows : (state : ClusterState) → IsReached image steps (length steps) state → ShowsRecord image left state

-- where a record's events, in order of their stamps, are a run that ends in the record, they replay to the record,
-- whoever put them in order
abbrev pub MergedReplaysLaw : Type 0
MergedReplaysLaw =
    (image : ImageParts) (left : Record) (steps : List Step) → IsMergedRun image left → IsMerge (steps_in left) steps
    → ReplaysTo image steps left
