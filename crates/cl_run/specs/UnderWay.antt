-- A run that is under way.
use Rattle.std.specs.Prelude.{ℕ, ◌≡◌, ◌≢◌, ◌<◌, ◌≤◌, ◌+◌, ◌%◌, ◌^◌, List, [], ◌∷◌, length, map, slice_get, Some}
use Rattle.std.specs.Prelude.{IfSome, All, is_some}
use Rattle.std.specs.List.{filter_map}
use Rattle.rv_image_types.specs.declared.images.ImageParts.{ImageParts}
use Rattle.cl_journal.specs.Journal.{entries_by}
use Rattle.cl_journal.specs.Replaying.{HubHistory, clock_of}
use Rattle.cl_journal.specs.declared.entries.Entry.{Entry}
use Rattle.cl_trace.specs.declared.events.Event.{Event}
use Rattle.rv_image_types.specs.declared.images.Link.{Link}
use Rattle.cl_state.specs.Rank.{site_of}
use Rattle.cl_machine.specs.Boxes.{Box, box_number}
use Rattle.cl_machine.specs.Cluster.{Cluster, IsRun, loaded_cluster}
use Rattle.cl_record.specs.Seats.{Station}
use Rattle.cl_run.specs.Driver.{IsStoppedAt}
use Rattle.cl_machine.specs.Journal.{journal_of}
use Rattle.cl_machine.specs.Journal as cluster
use Rattle.cl_machine.specs.Order.{of_rank}
use Rattle.cl_record.specs.BoxKeys.{IsBoxOf}
use Rattle.cl_deeds.specs.Orders.{in_slot}
use Rattle.cl_record.specs.Records.{FollowsPlan, hub_calls, is_hub, step_by}
use Rattle.cl_run.specs.Runs.{HasCause, NoneIdles}
use Rattle.cl_record.specs.declared.plans.Plan.{Plan}
use Rattle.cl_machine.specs.declared.steps.Step.{Step}

-- the turns from `from` on, with all slots below `to` gone through: whoever a slot names that was passed over is done
abbrev pub Round : List ℕ → (ℕ → Type 0) → ℕ → List ℕ → ℕ → Type 0
Round order Done from [] to = (from ≤ to) × ((passed : ℕ) → from ≤ passed → passed < to → Done (in_slot order passed))
Round order Done from (taker ∷ takers) to =
    (slot : ℕ)
    × (from ≤ slot)
    × (in_slot order slot ≡ taker)
    × ((passed : ℕ) → from ≤ passed → passed < slot → All (λ later. later ≢ in_slot order passed) (taker ∷ takers)
    × Done (in_slot order passed))
    × Round order Done (slot + 1) takers to

-- rank number r after some steps, with these entries in the journal
pub record IsSoFar (steps : List Step) (entries : List Entry) (r : ℕ) (plan : Plan) (s : Station) : Type 0 where
  pub number_is : s.rank.site.number ≡ r
  pub low : s.rank.clock < 2 ^ 62
  pub budget_is : s.budget ≡ plan.budget
  pub in_budget : length s.events ≤ plan.budget
  pub next_is : s.next ≡ length s.events % length plan.order.items
  pub steps_are : of_rank (λ (e : Step). e.rank) r steps ≡ map (step_by r) s.events
  pub requests_stand : All (λ (e : Event). is_some e.request ≡ is_hub e.kind) s.events
  pub requests_are : filter_map (λ (e : Event). e.request) s.events
      ≡ map (λ (e : Entry). e.request) (entries_by r entries)
  pub follows_plan : FollowsPlan plan s.events
  pub calls_are : hub_calls s.events ≡ length (entries_by r entries)
  pub few_calls : length (entries_by r entries) ≤ 1048576
  pub has_cause : IfSome s.stop (HasCause plan s.rank s.events entries)

-- what a hub's entries show of the cluster's journal
abbrev pub shown : HubHistory → cluster.Journal
shown hub = journal_of hub.links hub.entries

-- the cluster that a driver stands for, with these boxes
abbrev pub cluster_of : List Station → HubHistory → List Box → Cluster
cluster_of ss hub boxes = record { ranks = map (λ (s : Station). s.rank) ss; journal = shown hub; boxes = boxes }

-- the boxes of all links, of ranks that have these sides
abbrev pub AreBoxes : ImageParts → List Station → List Box → Type 0
AreBoxes image ss boxes =
    (link part : ℕ) (l : Link) → slice_get image.links link ≡ Some l → part < 16
    → (from : Station) × (to : Station) × (slice_get ss l.from ≡ Some from) × (slice_get ss l.to ≡ Some to)
    × IsBoxOf image.version from.sides to.sides link part (slice_get boxes (box_number link part))

-- the steps so far, with all slots below this one gone through
pub record IsUnderWay (image : ImageParts) (plans : List Plan) (order : List ℕ) (ss : List Station) (hub : HubHistory)
    (slot : ℕ) : Type 0 where
  pub links_are : hub.links ≡ image.links
  pub low : clock_of hub < 2 ^ 62
  pub sites : (r : ℕ) (s : Station) → slice_get ss r ≡ Some s → s.rank.site ≡ site_of image r
  pub steps : List Step
  pub boxes : List Box
  pub are_boxes : AreBoxes image ss boxes
  pub run : IsRun (loaded_cluster image) steps (cluster_of ss hub boxes)
  pub none_idles : NoneIdles (loaded_cluster image) steps
  pub round : Round order (IsStoppedAt ss) 0 (map (λ (e : Step). e.rank) steps) slot
  pub each : (r : ℕ) (plan : Plan) (s : Station) → slice_get plans r ≡ Some plan → slice_get ss r ≡ Some s
      → IsSoFar steps hub.entries r plan s
