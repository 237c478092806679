-- That what is told of one image and one order is one, where no state is left.
use Rattle.std.specs.Prelude.{ℕ, suc, ◌≡◌, ◌++◌, List, [], Bool, false, true, slice_get, Some}
use Rattle.std.specs.List.{enumerate_from, flat_map, list_any}
use Rattle.rv_image_types.specs.Image.{IsImage}
use Rattle.rv_image_types.specs.declared.images.ImageParts.{ImageParts}
use Rattle.cl_state.specs.Rank.{Rank}
use Rattle.cl_machine.specs.Cluster.{Cluster, IsRun, loaded_cluster}
use Rattle.cl_machine.specs.declared.steps.Step.{Step}
use Rattle.cl_order_laws.specs.Closed.{FollowPlans, IsEnd, Node, none_had}
use Rattle.cl_explore.specs.Below.{IsOrder}
use Rattle.cl_moves.specs.Standing.{IsWay, by_order, first_node}
use Rattle.cl_explore.specs.Ends.{AreAlikeEnds}
use Rattle.rvmc_explore.specs.Ends.{end_rank_text, one_waits}
use Rattle.rvmc_explore.specs.Outcomes.{HasBody, IsEndBody, IsListOf, IsTextAt, any_need}
use Rattle.rvmc_explore.specs.Recorded.{LeadsTo, RecordsEnd}
use Rattle.rvmc_explore.specs.Starting.{RecordsEndBehind}
use Rattle.rvmc_explore.specs.Telling.{Tells}
use Rattle.rvmc_starts.specs.declared.starts.Start.{Start}
use Rattle.rvmc_explore.specs.declared.outcomes.Outcome.{Outcome}

-- ---- what is told of an end

-- these ranks in order, the first of which has this number: each rank's output, how its harts stand, and its stop
abbrev pub lines_from : List ℕ → ℕ → List Rank → List ℕ
lines_from order number ranks = flat_map (λ rank. end_rank_text order rank.0 rank.1) (enumerate_from number ranks)

-- all ranks of a cluster
abbrev pub rank_lines : List ℕ → Cluster → List ℕ
rank_lines order cluster = lines_from order 0 cluster.ranks

-- a hart that takes turns waits there
abbrev pub some_waits : List ℕ → Cluster → Bool
some_waits order cluster = list_any (λ rank. one_waits order rank.harts) cluster.ranks

-- the list tells this end: a text of it begins with the lines of the ranks as they are at the end, and is these alone where
-- no hart waits. It is that of a node at which the cluster is alike
pub record TellsEnd (image : ImageParts) (order : List ℕ) (buffered : Bool) (states turns : ℕ) (told : List Outcome)
    (listed : IsListOf image order buffered states turns told) (end : Cluster) : Type 0 where
  pub number : ℕ
  pub node : Node
  pub there : slice_get (((listed.searched).explored).nodes) number ≡ Some node
  pub alike : AreAlikeEnds end node.cluster
  pub body : List ℕ
  pub told_is : HasBody told body
  pub is : IsEndBody order image (listed.found).kept number body
  pub waiting : List ℕ
  pub begins : body ≡ rank_lines order end ++ waiting
  pub alone : some_waits order end ≡ false → waiting ≡ []

-- the steps lead to the outcome of this number in the list
pub record LeadsToText (image : ImageParts) (order : List ℕ) (left : ℕ) (told : List Outcome) (number : ℕ) (steps : List Step)
    : Type 0 where
  pub outcome : Outcome
  pub place : ℕ
  pub numbered_from_1 : number ≡ suc place
  pub there : slice_get told place ≡ Some outcome
  pub leads : LeadsTo image order left outcome steps

-- ---- the laws

-- of lists of one image and one order, whatever their bounds. Where a premise says so, a search left no state
pub record OneListLaw : Type 0 where
  -- each outcome's turns lead by the order to a node of which its text tells, with whatever bounds
  pub each : (image : ImageParts) (order : List ℕ) (buffered : Bool) (states turns : ℕ) (told : List Outcome)
      → (listed : IsListOf image order buffered states turns told) → (k : ℕ) (outcome : Outcome)
      → slice_get told k ≡ Some outcome
      → (node : Node) × IsWay (by_order order) (first_node image) outcome.way node
      × IsTextAt image order (listed.found).left node outcome.body.items
  -- each tells the end of every run by the order
  pub every : (image : ImageParts) (order : List ℕ) (buffered : Bool) (states turns : ℕ) (told : List Outcome)
      → (listed : IsListOf image order buffered states turns told) → (listed.found).left ≡ 0
      → (steps : List Step) (end : Cluster) → IsRun (loaded_cluster image) steps end
      → FollowPlans (by_order order) none_had steps → IsEnd (by_order order) end
      → TellsEnd image order buffered states turns told listed end
  -- so each end that one search found is told in the other list
  pub ends : (image : ImageParts) (order : List ℕ) (buffered copied : Bool) (states turns more longer : ℕ)
      (told other : List Outcome)
      → (one : IsListOf image order buffered states turns told) → (listed : IsListOf image order copied more longer other)
      → (listed.found).left ≡ 0
      → (k i : ℕ) (node : Node) → slice_get (one.found).ends k ≡ Some i
      → slice_get (((one.searched).explored).nodes) i ≡ Some node
      → TellsEnd image order copied more longer other listed node.cluster
  -- the record of a number leads to the text of this number, in its list, with whatever bounds
  pub record_leads : (image : ImageParts) (order : List ℕ) (buffered : Bool) (states turns number : ℕ) (steps : List Step)
      → (recorded : RecordsEnd image order buffered states turns number (Some steps))
      → LeadsToText image order ((recorded.listed).found).left recorded.told number steps
  -- and so does that behind a start
  pub record_leads_from : (image : ImageParts) (start : Start) (states turns number : ℕ) (steps : List Step)
      → (recorded : RecordsEndBehind image start states turns number (Some steps))
      → LeadsToText image start.harts ((recorded.listed).found).left recorded.told number steps
  -- it leads to an end that is told in the other list, unless somebody goes on there: others beside ranks that are stuck, ranks
  -- that need buffers, or those of a state from which runs hang if sends wait
  pub records : (image : ImageParts) (order : List ℕ) (buffered copied : Bool) (states turns more longer number : ℕ)
      (steps : List Step) (other : List Outcome) → RecordsEnd image order buffered states turns number (Some steps)
      → (listed : IsListOf image order copied more longer other) → (listed.found).left ≡ 0
      → (end : Cluster) × IsRun (loaded_cluster image) steps end
      × (IsEnd (by_order order) end → TellsEnd image order copied more longer other listed end)
  -- if standard sends might wait in a search that left no state, no list tells of ranks that need buffers, with whatever
  -- bounds. Otherwise a list tells of those that its search found first, and of none if sends were to buffer
  pub none_need : (image : ImageParts) (order : List ℕ) (buffered copied : Bool) (states turns more longer : ℕ) (text : List ℕ)
      (status : ℕ) (other : List Outcome) → (one : Tells image order buffered states turns text status)
      → (((one.listed).found).left ≡ 0)
      → (((one.listed).found).may_wait ≡ true) → IsListOf image order copied more longer other
      → any_need other ≡ false
  -- both say that some runs go on for ever, or neither; and both have the same status if both know the same of ranks that need
  -- buffers
  pub statuses : (image : ImageParts) (order : List ℕ) (buffered copied : Bool) (states turns more longer : ℕ)
      (text other : List ℕ) (status its : ℕ) → IsImage image → IsOrder image.harts order
      → (one : Tells image order buffered states turns text status) → (((one.listed).found).left ≡ 0)
      → (two : Tells image order copied more longer other its) → (((two.listed).found).left ≡ 0)
      → (one.unending ≡ two.unending) × ((one.listed).needs ≡ (two.listed).needs → status ≡ its)
