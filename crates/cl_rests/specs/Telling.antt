-- What is told of a standing: which ranks rest there, and which need buffers.
use Rattle.std.specs.Prelude.{ℕ, ◌≡◌, ◌≤◌, Bool, List, length, Option, Some, None}
use Rattle.std.specs.List.{slice_get}
use Rattle.rv_image_types.specs.Image.{IsImage}
use Rattle.rv_image_types.specs.declared.images.ImageParts.{ImageParts}
use Rattle.cl_state.specs.Rank.{Rank}
use Rattle.cl_machine.specs.Cluster.{Cluster}
use Rattle.cl_deadlock_laws.specs.Stuck.{IsReachable}
use Rattle.cl_rest_laws.specs.Rests.{rests}
use Rattle.cl_order_laws.specs.Closed.{Node}
use Rattle.cl_moves.specs.Standing.{StandsAt}
use Rattle.cl_moves.specs.declared.standing.Standing.{Standing}
use Rattle.cl_rests.specs.Needing.{IsNeed, IsNoNeed}
use Rattle.cl_rests.specs.Sets.{AreResting}

-- whichever node the standing is, the rank's first hart rests there or doesn't
abbrev pub IsRestAt : Standing → ℕ → Bool → Type 0
IsRestAt standing rank found =
    (image : ImageParts) (here : Node) → StandsAt image standing here → found ≡ rests here.cluster rank 0

-- whichever node the standing is, of as many ranks as an image may have
abbrev pub TellsResting : Standing → ℕ → Type 0
TellsResting standing set =
    (image : ImageParts) (here : Node) → StandsAt image standing here → length here.cluster.ranks ≤ 8
    → AreResting set here.cluster

-- each rank has one hart
abbrev pub HaveOneHart : Cluster → Type 0
HaveOneHart c = (r : ℕ) (rank : Rank) → slice_get c.ranks r ≡ Some rank → length rank.harts ≡ 1

abbrev pub IsNeedVerdict : Cluster → Option (List ℕ) → Type 0
IsNeedVerdict c (Some ranks) = IsNeed ranks c
IsNeedVerdict c None = IsNoNeed c

-- whichever node the standing is that was reached from an image and has one hart a rank
abbrev pub TellsNeed : Standing → Option (List ℕ) → Type 0
TellsNeed standing found =
    (image : ImageParts) (here : Node) → IsImage image → IsReachable image here.cluster → StandsAt image standing here
    → HaveOneHart here.cluster
    → IsNeedVerdict here.cluster found
