-- One schedule, followed to its end.
use Rattle.std.specs.Prelude.{ℕ, ◌≡◌, ◌++◌, ◌∷◌, [], List, slice_get, Option, Some, None}
use Rattle.rv_image_types.specs.declared.images.ImageParts.{ImageParts}
use Rattle.cl_deeds.specs.Orders.{in_slot}
use Rattle.cl_machine.specs.declared.steps.Step.{Step}
use Rattle.cl_order_laws.specs.Closed.{IsEnd, Node}
use Rattle.cl_moves.specs.Standing.{IsWay, StandsAt, by_order}
use Rattle.cl_moves.specs.declared.standing.Standing.{Standing}
use Rattle.cl_explore.specs.How.{How}
use Rattle.cl_explore.specs.Searching.{KeepsOf}
use Rattle.cl_explore.specs.declared.kept.KeptNode.{KeptNode}
use Rattle.cl_explore.specs.declared.search.Search.{Search}

-- turns by the order led from whichever node the old standing was to one that the new standing is
abbrev pub Follows : List ℕ → Standing → Standing → Type 0
Follows order old new =
    (image : ImageParts) (start here : Node) → StandsAt image old here → IsWay (by_order order) start old.steps.items here
    → (there : Node) × StandsAt image new there × IsWay (by_order order) start new.steps.items there

-- and nobody goes on there
abbrev pub Ends : List ℕ → Standing → Standing → Type 0
Ends order old new =
    (image : ImageParts) (start here : Node) → StandsAt image old here → IsWay (by_order order) start old.steps.items here
    → (there : Node) × StandsAt image new there × IsWay (by_order order) start new.steps.items there
    × IsEnd (by_order order) there.cluster

-- the turn is one of the hart whose turn it is in its rank
abbrev pub IsNextTurn : List ℕ → Standing → Step → Type 0
IsNextTurn order standing e =
    (had : ℕ) × (slice_get standing.had.items e.rank ≡ Some had) × (e.hart ≡ in_slot order had)

-- the node of this number is an end
abbrev pub IsEndAt : List ℕ → List Node → ℕ → Type 0
IsEndAt order nodes i = (node : Node) × (slice_get nodes i ≡ Some node) × IsEnd (by_order order) node.cluster

-- nothing was found; or one node more, which is an end
abbrev pub Dives : How → List ℕ → Search → ℕ → Search → Option ℕ → Type 0
Dives how order old from new None = (new.nodes.items ≡ old.nodes.items) × (new.leads.items ≡ old.leads.items)
Dives how order old from new (Some number) =
    ((kept : KeptNode) × (new.nodes.items ≡ old.nodes.items ++ kept ∷ []) × (new.leads.items ≡ old.leads.items))
    × KeepsOf how order old from new (λ image more node. IsEndAt order more number)
