-- What a listener is told of, and what has to be known of a search for that.
use Rattle.std.specs.Prelude.{ℕ, ◌≡◌, List, Some, slice_get, true}
use Rattle.rv_image_types.specs.Image.{IsImage}
use Rattle.rv_image_types.specs.declared.images.ImageParts.{ImageParts}
use Rattle.cl_order_laws.specs.Closed.{Node}
use Rattle.cl_rests.specs.Needing.{IsNeed}
use Rattle.cl_moves.specs.Standing.{IsWay, StandsAt, by_order, first_node}
use Rattle.cl_moves.specs.declared.standing.Standing.{Standing}
use Rattle.cl_explore.specs.Covering.{AreNodes}
use Rattle.cl_explore.specs.Diving.{IsEndAt}
use Rattle.cl_explore.specs.How.{How, waits_in}
use Rattle.cl_explore.specs.Searching.{AreFound}
use Rattle.cl_explore.specs.declared.kept.KeptNode.{KeptNode}
use Rattle.cl_explore.specs.declared.search.Search.{Search}

-- what is kept are nodes to each of which its turns led, and nobody goes on at the one of this number
abbrev pub IsEndNode : ImageParts → List ℕ → List KeptNode → ℕ → Type 0
IsEndNode image order kept number = (nodes : List Node) × AreNodes image order kept nodes × IsEndAt order nodes number

-- and these ranks need buffers at the one of this number, the most that are held up together there
abbrev pub IsNeedNode : ImageParts → List ℕ → List KeptNode → ℕ → List ℕ → Type 0
IsNeedNode image order kept number ranks =
    (nodes : List Node) × AreNodes image order kept nodes
    × ((node : Node) × (slice_get nodes number ≡ Some node) × IsNeed ranks node.cluster)

-- turns by the order led to the standing from the loaded cluster
abbrev pub CameByOrder : ImageParts → List ℕ → Standing → Type 0
CameByOrder image order standing =
    (here : Node) × StandsAt image standing here × IsWay (by_order order) (first_node image) standing.steps.items here

-- where standard sends may wait for their receives the image loads, and its ranks have one hart each
abbrev pub IsImageFor : How → ImageParts → Type 0
IsImageFor how image = waits_in how ≡ true → IsImage image × (image.harts ≡ 1)

-- what the search found are nodes of this image, and its moves led between them
abbrev pub IsSearchOf : How → ImageParts → List ℕ → Search → Type 0
IsSearchOf how image order search = (nodes : List Node) × AreFound how image order search nodes
