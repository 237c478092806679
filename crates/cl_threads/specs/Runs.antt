-- What a run with a thread for each rank leaves.
use Rattle.std.specs.Prelude.{ℕ, ◌≡◌, ◌<◌, ◌≤◌, List, length, map, slice_get, Some, Bool, true, false}
use Rattle.std.specs.List.{AllByRecursion}
use Rattle.rv_image_types.specs.declared.images.ImageParts.{ImageParts}
use Rattle.rv_image_types.specs.declared.images.ImageVersion.{ImageVersion}
use Rattle.rv_image_types.specs.declared.images.Link.{Link}
use Rattle.part_box.specs.declared.settled.Settled.{Settled}
use Rattle.part_box.specs.declared.view.Receiving.{Receiving}
use Rattle.part_box.specs.declared.view.Sending.{Sending}
use Rattle.part_box.specs.Settling.{IsSettled}
use Rattle.part_box.specs.Steps.{nothing_received, nothing_sent}
use Rattle.part_phase.specs.Limits.{box_words}
use Rattle.cl_trace.specs.Traces.{TraceView}
use Rattle.cl_trace.specs.declared.events.Event.{Event}
use Rattle.cl_state.specs.Rank.{Rank}
use Rattle.cl_state.specs.Room.{rank_of}
use Rattle.cl_state.specs.declared.state.RankState.{RankState}
use Rattle.cl_deeds.specs.Deeds.{Act, Deed, PartRun, event_of}
use Rattle.cl_rank.specs.Sides.{ReceiverActs, SenderActs, is_place, box_id_of}
use Rattle.cl_rank.specs.declared.stops.Stop.{Stop}
use Rattle.cl_machine.specs.Cluster.{Cluster, loaded_cluster}
use Rattle.cl_machine.specs.Joined.{Joined}
use Rattle.cl_record.specs.Plans.{HasPlans}
use Rattle.cl_record.specs.Records.{FollowsPlan, IsEndOf}
use Rattle.cl_record.specs.declared.plans.Plan.{Plan}
use Rattle.cl_record.specs.declared.records.Record.{Record}
use Rattle.cl_threads.specs.Alone.{StopsFor}

-- what a thread left of a rank: its events are its deeds, by its plan, and it stopped for a cause
pub record IsTracedRank (plan : Plan) (deeds : List Deed) (events : List Event) (rank : Rank) (stop : Stop) : Type 0 where
  pub traced : events ≡ map event_of deeds
  pub follows_plan : FollowsPlan plan events
  pub in_budget : length events ≤ plan.budget
  pub stops : StopsFor plan rank events stop

-- a deed on this box goes by its act, and any other leaves the key
abbrev pub OnBox : {K : Type 0} → (ℕ → Act → K → K → Type 0) → Bool → K → Deed → K → Type 0
OnBox Acts true old d new = Acts d.stamp d.act old new
OnBox Acts false old d new = new ≡ old

-- what the sender's key of a box knows after a rank's deeds, and what the receiver's knows: what they made and took,
-- and each gate word that they loaded, one for each look
abbrev pub SenderWent : ImageVersion → ℕ → ℕ → List Deed → Sending → Type 0
SenderWent version link part deeds key =
    PartRun (λ (a : Sending) (d : Deed) (b : Sending).
    OnBox (SenderActs version) (is_place link part (box_id_of d.act)) a d b) nothing_sent deeds key

abbrev pub ReceiverWent : ImageVersion → ℕ → ℕ → List Deed → Receiving → Type 0
ReceiverWent version link part deeds key =
    PartRun (λ (a : Receiving) (d : Deed) (b : Receiving).
    OnBox (ReceiverActs version) (is_place link part (box_id_of d.act)) a d b) nothing_received deeds key

-- box number `part` of a link: its two keys went by the deeds of the link's two ranks, and this is what they left of it
pub record IsBoxOf (version : ImageVersion) (deeds : ℕ → List Deed) (link part : ℕ) (l : Link) (left : Settled)
    : Type 0 where
  pub sender : Sending
  pub receiver : Receiving
  pub sent : SenderWent version link part (deeds l.from) sender
  pub received : ReceiverWent version link part (deeds l.to) receiver
  pub settled : IsSettled (box_words version) sender receiver left

-- the record is of ranks that went alone, each by its plan, with one hub and boxes between them: what they did fits
-- together, as the law of the order asks it
pub record IsThreadRun (image : ImageParts) (plans : List Plan) (left : Record) : Type 0 where
  -- what each rank did, with all that it met
  pub deeds : ℕ → List Deed
  pub own : (r : ℕ) → AllByRecursion (λ (d : Deed). d.rank ≡ r) (deeds r)
  pub final : Cluster
  pub joined : Joined image.links (loaded_cluster image) final deeds left.journal.items
  pub end : IsEndOf image left final
  -- a plan, a trace, a last state and a stop for each rank
  pub planned : HasPlans image plans
  pub traces_count : length left.traces.items ≡ image.ranks
  pub ranks_count : length left.ranks.items ≡ image.ranks
  pub stops_count : length left.stops.items ≡ image.ranks
  pub each : (r : ℕ) (plan : Plan) (trace : TraceView) (state : RankState) (stop : Stop)
      → slice_get plans r ≡ Some plan → slice_get left.traces.items r ≡ Some trace
      → slice_get left.ranks.items r ≡ Some state
      → slice_get left.stops.items r ≡ Some stop
      → IsTracedRank plan (deeds r) trace.events (rank_of state) stop
  -- the boxes by the keys of their two sides
  pub boxes : (link part : ℕ) (l : Link) (settled : List Settled) (b : Settled) → part < 16
      → slice_get image.links link ≡ Some l → slice_get left.boxes.items link ≡ Some settled
      → slice_get settled part ≡ Some b → IsBoxOf image.version deeds link part l b
