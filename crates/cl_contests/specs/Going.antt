-- Where turns lead that are taken first, and which clusters are fit for all ranks to be let go.
use Rattle.std.specs.Prelude.{ℕ, ◌≡◌, Bool, true, List, slice_get, Some}
use Rattle.rv_image_types.specs.declared.images.ImageParts.{ImageParts}
use Rattle.cl_machine.specs.Cluster.{Cluster}
use Rattle.cl_order_laws.specs.Closed.{Node}
use Rattle.cl_order_laws.specs.Laws.{IsReached}
use Rattle.cl_deeds.specs.Orders.{in_slot}
use Rattle.cl_state.specs.Rank.{Rank}
use Rattle.cl_state_laws.specs.Awake.{StandsAtCall}
use Rattle.cl_moves.specs.Standing.{IsWay, StandsAt, by_order}
use Rattle.cl_moves.specs.declared.standing.Standing.{Standing}
use Rattle.cl_reduction_laws.specs.Below.{AreAlike}
use Rattle.cl_reduction_laws.specs.Clusters.{Search}
use Rattle.cl_reduction_laws.specs.Settled.{IsFit, IsSettled}
use Rattle.cl_contests.specs.declared.first.Went.{Went}

-- the first hart alone takes turns
abbrev pub IsFirstHart : List ℕ → Type 0
IsFirstHart order = (n : ℕ) → in_slot order n ≡ 0

-- what settles the one settles the other
abbrev pub SettlesFrom : Search → Cluster → Cluster → Type 0
SettlesFrom search here there =
    (node : Cluster) → IsSettled search (λ c. c ≡ node) there → IsSettled search (λ c. c ≡ node) here

-- whichever node the old standing was that a run led to, the new one is one that a way leads to, and this holds of the two
abbrev pub LeadsOn : List ℕ → Standing → Standing → (Cluster → Cluster → Type 0) → Type 0
LeadsOn order old new P =
    (image : ImageParts) (start here : Node) → StandsAt image old here → IsWay (by_order order) start old.steps.items here
    → IsReached start.cluster
    → (there : Node) × StandsAt image new there × IsWay (by_order order) start new.steps.items there
    × P here.cluster there.cluster

-- whatever is alike the new one settles the old one
abbrev pub IsSettledThere : Search → Cluster → Cluster → Type 0
IsSettledThere search here there =
    (node : Cluster) → AreAlike search.wild there node → IsSettled search (λ c. c ≡ node) here

-- where each rank asked within the patterns all the way, by each order that names the first hart alone
abbrev pub GoesFirstOn : Search → Standing → Standing → Went → Type 0
GoesFirstOn search old new went =
    went.within ≡ true → (order : List ℕ) → IsFirstHart order → LeadsOn order old new (IsSettledThere search)

-- whichever node the standing is, it is fit
abbrev pub TellsFit : Search → Standing → Bool → Type 0
TellsFit search standing fit =
    fit ≡ true → (image : ImageParts) (here : Node) → StandsAt image standing here → IsFit search here.cluster

-- whichever node the standing is, each first hart that is to make its call anew stands at it
abbrev pub TellsStart : Standing → Bool → Type 0
TellsStart standing may =
    may ≡ true → (image : ImageParts) (here : Node) → StandsAt image standing here
    → (r : ℕ) (rank : Rank) → slice_get here.cluster.ranks r ≡ Some rank → StandsAtCall rank 0
