-- The cluster on whose network each message is on its way until it arrives.
use Rattle.std.specs.Prelude.{ℕ, ◌<◌, ◌≡◌, ◌⊎◌, List, [], ◌∷◌, length, map, Some}
use Rattle.std.specs.List.{slice_get, slice_set}
use Rattle.rv_image_types.specs.declared.images.ImageParts.{ImageParts}
use Rattle.mp_types.specs.declared.replies.Reply.TheVariants.{NotYet}
use Rattle.mp_types.specs.declared.requests.Request.{Request}
use Rattle.mp_match.specs.declared.posts.Sent.{Sent}
use Rattle.mp_match.specs.Order.{SendsAt}
use Rattle.mp_match.specs.PostPairs.{posts_of}
use Rattle.mp_way_laws.specs.Way.{HasArrived, IsNext, WayView, all_arrived, arrival, lines_of, outcome, way_at_start}
use Rattle.mp_way_laws.specs.Answers.{IsSameHub}
use Rattle.cl_state.specs.declared.asking.Answer.{Answer}
use Rattle.cl_state.specs.declared.asking.Ask.{Ask}
use Rattle.cl_state.specs.Asked.{asked}
use Rattle.cl_state.specs.Rank.{Rank}
use Rattle.cl_state.specs.Told.{told}
use Rattle.cl_state_laws.specs.Vain.{IsPatient, IsStopped, mode_of}
use Rattle.cl_trace.specs.declared.events.Kind.{Kind}
use Rattle.cl_machine.specs.declared.steps.Step.{Step}
use Rattle.cl_machine.specs.Boxes.{Box}
use Rattle.cl_machine.specs.Cluster.{Cluster, loaded_cluster}
use Rattle.cl_machine.specs.Journal.{Journal, empty_journal}
use Rattle.cl_order_laws.specs.Alike.{Leads, hub_of}
use Rattle.cl_order_laws.specs.Closed.{IsInVain}
use Rattle.cl_way_laws.specs.Met.{met}

-- its ranks, a hub with what is on its way (MPI 4.1, 3.5), and boxes: each of these has one sender and one receiver, so
-- partitions are there as soon as they are ready (4.2). Clocks and stamps mean nothing here
pub record WayCluster : Type 0 where
  pub ranks : List Rank
  pub way : WayView
  pub boxes : List Box

-- all ranks loaded, no call made, nothing on its way, all boxes empty
abbrev pub way_loaded : ImageParts → WayCluster
way_loaded image = record {
  ranks = (loaded_cluster image).ranks;
  way = way_at_start image.links;
  boxes = (loaded_cluster image).boxes;
}

-- these ranks and boxes, and a hub after the calls of a journal
abbrev pub with_journal : WayCluster → Journal → Cluster
with_journal w journal = record { ranks = w.ranks; journal = journal; boxes = w.boxes }

-- ---- turns

-- a kind of turn in which the hub isn't asked
abbrev pub IsElsewhere : Kind → Type 0
IsElsewhere (Kind.Hub reply) = ⊥
IsElsewhere _ = Unit {0}

-- the rank was told what the hub answers while messages are on their way, and the hub is as the call left it
abbrev pub called_on_way : WayCluster → ℕ → ℕ → Rank → Request → ℕ → WayCluster
called_on_way old r hart rank q stamp = record {
  ranks = slice_set old.ranks r (told rank hart (Answer.Reply (outcome old.way r q).0) stamp);
  way = (outcome old.way r q).1;
  boxes = old.boxes;
}

-- a turn of a hart of this rank: a call of the hub; or a turn that is one of the cluster, whatever calls were made
pub data WayTurn (r hart : ℕ) (old new : WayCluster) : Type 0 where
  at_hub : (rank : Rank) (q : Request) (stamp : ℕ) → slice_get old.ranks r ≡ Some rank → hart < length rank.harts
      → asked rank hart ≡ Ask.Hub q
      → new ≡ called_on_way old r hart rank q stamp
      → WayTurn r hart old new
  elsewhere : (journal : Journal) (e : Step) (next : Cluster) → e.rank ≡ r → e.hart ≡ hart → IsElsewhere e.kind
      → Leads (with_journal old journal) e next
      → new ≡ record { ranks = next.ranks; way = old.way; boxes = next.boxes }
      → WayTurn r hart old new

-- ---- runs

-- a turn of a hart of a rank, or the arrival of the message of the send at a place, which is no rank's turn
pub data WayEvent : Type 0 where
  turn : ℕ → ℕ → WayEvent
  arrives : ℕ → Sent → WayEvent

abbrev pub arrived_at : WayCluster → ℕ → Sent → WayCluster
arrived_at old place sent = record { ranks = old.ranks; way = arrival old.way place sent; boxes = old.boxes }

-- a message may arrive once all have that were sent before it from the same rank to the same rank in the same
-- communicator
abbrev pub HappensOnWay : WayCluster → WayEvent → WayCluster → Type 0
HappensOnWay old (turn r hart) new = WayTurn r hart old new
HappensOnWay old (arrives place sent) new = IsNext old.way place sent × (new ≡ arrived_at old place sent)

abbrev pub IsWayRun : WayCluster → List WayEvent → WayCluster → Type 0
IsWayRun old [] new = new ≡ old
IsWayRun old (e ∷ es) new = (mid : WayCluster) × HappensOnWay old e mid × IsWayRun mid es new

-- ---- ends

-- what is asked isn't there, or hasn't arrived
abbrev pub IsInVainOnWay : WayCluster → ℕ → Ask → Type 0
IsInVainOnWay w r (Ask.Hub q) = (outcome w.way r q).0 ≡ NotYet
IsInVainOnWay w r ask = IsInVain (with_journal w (empty_journal [])) r ask

-- nobody goes on, and nothing is on its way
pub record IsWayEnd (w : WayCluster) : Type 0 where
  pub nobody : (r hart : ℕ) (rank : Rank) → slice_get w.ranks r ≡ Some rank → hart < length rank.harts
      → IsStopped (mode_of rank hart) ⊎ (IsPatient rank hart × IsInVainOnWay w r (asked rank hart))
  pub arrived : (place : ℕ) (sent : Sent) → SendsAt (posts_of (lines_of w.way)) place sent
      → HasArrived w.way.arrived place

-- ---- once all has arrived

-- the cluster in which all that is on its way has arrived: it has the same boxes, a hub of the same posts, and the same ranks,
-- but that a request is complete whose synchronous send has a receive that was posted before it (MPI 4.1, 3.4)
pub record IsArrived (w : WayCluster) (c : Cluster) : Type 0 where
  pub ranks : c.ranks ≡ map (met (all_arrived w.way).board.lines) w.ranks
  pub boxes : c.boxes ≡ w.boxes
  pub hub : IsSameHub (hub_of c.journal) (all_arrived w.way)
