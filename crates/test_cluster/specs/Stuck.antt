-- Ranks that can't go on beside some.
use Rattle.std.specs.Prelude.{ℕ, ◌≡◌, ◌<◌, List, length, slice_get, false, Some}
use Rattle.mp_types.specs.declared.replies.Reply.TheVariants.{NotYet}
use Rattle.mp_types.specs.declared.requests.Request.TheVariants.{All}
use Rattle.mp_match.specs.Board.{line_of}
use Rattle.mp_hub.specs.Hub.{HubView, hub_after, is_ready, reply_of}
use Rattle.mp_wait_laws.specs.Waits.{OnlyOf, could_pair}
use Rattle.cl_state.specs.declared.asking.Ask.{Ask}
use Rattle.cl_state.specs.Asked.{asked}
use Rattle.cl_state.specs.Rank.{Rank}
use Rattle.cl_state_laws.specs.Vain.{IsPatient, IsStopped, mode_of}
use Rattle.cl_journal.specs.Journal.{calls_of}
use Rattle.cl_machine.specs.Cluster.{Cluster}
use Rattle.cl_deadlock_laws.specs.Stuck.{is_among, is_member}

-- what the hub is in this cluster
abbrev pub hub_in : Cluster → HubView
hub_in cluster = hub_after cluster.journal.links (calls_of cluster.journal.entries)

-- the rank has one hart, which waits for several posts; whichever of them this is, it isn't ready, and none but these
-- could bring what it waits for
pub record WaitsForOne (among : List ℕ) (cluster : Cluster) (r : ℕ) : Type 0 where
  pub rank : Rank
  pub there : slice_get cluster.ranks r ≡ Some rank
  pub alone : length rank.harts ≡ 1
  pub patient : IsPatient rank 0
  pub posts : List ℕ
  pub asks : asked rank 0 ≡ Ask.Hub (All posts)
  pub not_yet : reply_of cluster.journal.links (calls_of cluster.journal.entries) r (All posts) ≡ NotYet
  pub place : ℕ
  pub post : ℕ
  pub listed : slice_get posts place ≡ Some post
  pub unready : is_ready (hub_in cluster) r post ≡ false
  pub up_to : OnlyOf (is_among among) (could_pair (is_member rank.site) (line_of (hub_in cluster).board post))

-- all harts of the rank are stopped
pub record HasEnded (cluster : Cluster) (r : ℕ) : Type 0 where
  pub rank : Rank
  pub there : slice_get cluster.ranks r ≡ Some rank
  pub stopped : (hart : ℕ) → hart < length rank.harts → IsStopped (mode_of rank hart)
