-- The law of a split.
use Rattle.std.specs.Prelude.{ℕ, ◌≡◌, List, slice_get, Some}
use Rattle.rv_image_types.specs.declared.images.ImageParts.{ImageParts}
use Rattle.cl_machine.specs.Cluster.{Cluster, IsRun, loaded_cluster}
use Rattle.cl_machine.specs.declared.steps.Step.{Step}
use Rattle.cl_order_laws.specs.Closed.{FollowPlans, IsEnd, Node, none_had}
use Rattle.cl_explore.specs.Ends.{AreAlikeEnds}
use Rattle.cl_moves.specs.Standing.{by_order}
use Rattle.rvmc_starts.specs.declared.parts.EndText.{EndText}
use Rattle.rvmc_starts.specs.declared.starts.Start.{Start}
use Rattle.rvmc_explore.specs.Outcomes.{IsEndBody}
use Rattle.rvmc_explore.specs.Splitting.{IsSplit}
use Rattle.rvmc_explore.specs.Starting.{TellsFrom}

-- what was told of the start, and no node is left
pub record IsToldWhole (image : ImageParts) (start : Start) : Type 0 where
  pub states : ℕ
  pub turns : ℕ
  pub text : List ℕ
  pub status : ℕ
  pub tells : TellsFrom image start states turns text status
  pub whole : ((tells.listed).found).left ≡ 0

-- it has an end whose text is told, at a node that the cluster is alike
pub record HasEndAs (image : ImageParts) (start : Start) (told : IsToldWhole image start) (end : Cluster) : Type 0 where
  pub place : ℕ
  pub number : ℕ
  pub node : Node
  pub text : EndText
  pub there : slice_get (((((told.tells).listed).behind).explored).nodes) number ≡ Some node
  pub alike : AreAlikeEnds end node.cluster
  pub spelled : slice_get (((told.tells).part).ends) place ≡ Some text
  pub body : IsEndBody start.harts image (((told.tells).listed).found).kept number text.body

-- where each start was told whole, one of them tells the end of whatever run follows the order
abbrev pub SplitLaw : Type 0
SplitLaw =
    (image : ImageParts) (order : List ℕ) (states turns least : ℕ) (text : List ℕ)
    → (split : IsSplit image order states turns least text)
    → (told : (k : ℕ) (start : Start) → slice_get split.starts k ≡ Some start → IsToldWhole image start)
    → (steps : List Step) (end : Cluster) → IsRun (loaded_cluster image) steps end
    → FollowPlans (by_order order) none_had steps → IsEnd (by_order order) end
    → (k : ℕ) × (start : Start) × (at : slice_get split.starts k ≡ Some start) × HasEndAs image start (told k start at) end
