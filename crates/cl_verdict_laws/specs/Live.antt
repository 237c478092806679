-- Ranks ask about posts that aren't over.
use Rattle.std.specs.Prelude.{ℕ, ◌≡◌, Some}
use Rattle.std.specs.List.{slice_get}
use Rattle.rv_image_types.specs.declared.images.ImageParts.{ImageParts}
use Rattle.cl_state.specs.Asked.{asked}
use Rattle.cl_state.specs.Rank.{Rank}
use Rattle.cl_machine.specs.Cluster.{Cluster}
use Rattle.cl_deadlock_laws.specs.Stuck.{IsReachable}
use Rattle.cl_order_laws.specs.Alike.{hub_of}
use Rattle.cl_reduction_laws.specs.Below.{AskOfLive}
use Rattle.cl_reduction_laws.specs.Clusters.{NamesRightly}

-- each rank names only posts that were made, and awaits only such as it may have to ask about
abbrev pub NamesLive : Cluster → Type 0
NamesLive c =
    (r : ℕ) (rank : Rank) → slice_get c.ranks r ≡ Some rank
    → NamesRightly (hub_of c.journal).board.lines rank

-- so it is wherever a run leads, of however many harts, and with claims and partitions
abbrev pub NamesLaw : Type 0
NamesLaw = (image : ImageParts) (c : Cluster) → IsReachable image c → NamesLive c

-- whether a send is complete a rank asks only of sends that aren't over: it never asks of a standard send, of which it is told
-- at once that it is complete
abbrev pub AllAskOfLive : Cluster → Type 0
AllAskOfLive c =
    (r : ℕ) (rank : Rank) (hart : ℕ) → slice_get c.ranks r ≡ Some rank → AskOfLive c (asked rank hart)

-- so it is wherever a run leads
abbrev pub LiveLaw : Type 0
LiveLaw = (image : ImageParts) (c : Cluster) → IsReachable image c → AllAskOfLive c
