-- The outcomes that `explore` lists: ends, ranks that are stuck while others run on, ranks that need buffers, and states from
-- which runs hang if sends wait.
use Rattle.std.specs.Prelude.{ℕ, ◌≡◌, ◌⊎◌, List, [], Bool, false, true, length, slice_get, Some}
use Rattle.std.specs.List.{count_by, list_any}
use Rattle.std.specs.Str.{bytes_eq}
use Rattle.rv_image_types.specs.declared.images.ImageParts.{ImageParts}
use Rattle.cl_order_laws.specs.Closed.{IsEnd, Node}
use Rattle.cl_moves.specs.Standing.{IsWay, by_order, first_node}
use Rattle.cl_explore.specs.Below.{IsVerdictOf}
use Rattle.cl_explore.specs.Ends.{Findings}
use Rattle.cl_explore.specs.Needing.{SaysNeeds}
use Rattle.cl_explore.specs.declared.companies.Company.{Company}
use Rattle.cl_explore.specs.declared.kept.KeptNode.{KeptNode}
use Rattle.cl_explore.specs.declared.needs.Needs.{Needs}
use Rattle.cl_machine.specs.declared.steps.Step.{Step}
use Rattle.cl_patient_laws.specs.Patient.{HangsIfSendsWait}
use Rattle.cl_replay.specs.States.{ClusterStandsFor}
use Rattle.cl_replay.specs.declared.states.ClusterState.{ClusterState}
use Rattle.cl_rests.specs.Needing.{IsNeed}
use Rattle.cl_rests.specs.Sets.{AreResting}
use Rattle.rvmc_picture.specs.Below.{company_text}
use Rattle.rvmc_explore.specs.Beside.{OthersRunOn}
use Rattle.rvmc_explore.specs.Ends.{IsEndText}
use Rattle.rvmc_explore.specs.HangTexts.{hang_text}
use Rattle.rvmc_explore.specs.Needs.{need_text}
use Rattle.rvmc_explore.specs.Searched.{GoesTo, IsSearched}
use Rattle.rvmc_explore.specs.There.{IsKeptState}
use Rattle.rvmc_explore.specs.declared.outcomes.Outcome.{Outcome}

-- ---- one of them

-- the text of the end at the node of this number
pub record IsEndBody (order : List ℕ) (image : ImageParts) (kept : List KeptNode) (node : ℕ) (body : List ℕ) : Type 0 where
  pub state : ClusterState
  pub is : IsKeptState kept node state
  pub told : IsEndText order image state [] body

-- the text of ranks that are stuck: how their harts stand, and that others run on
pub record IsStuckBody (image : ImageParts) (kept : List KeptNode) (company : Company) (body : List ℕ) : Type 0 where
  pub state : ClusterState
  pub is : IsKeptState kept company.node state
  pub spelled : body ≡ company_text image state company.ranks.items

-- the text of ranks that need buffers at the node of this number
pub record IsNeedBody (image : ImageParts) (kept : List KeptNode) (node : ℕ) (ranks body : List ℕ) : Type 0 where
  pub state : ClusterState
  pub is : IsKeptState kept node state
  pub spelled : body ≡ need_text image state ranks

-- a text tells of this node, of a search that left so many states: of an end, where nobody goes on; of the most ranks that are
-- stuck there together, while others run on; of the most that need buffers there; or of all ranks, where runs hang if sends wait
pub record IsTextAt (image : ImageParts) (order : List ℕ) (left : ℕ) (node : Node) (body : List ℕ) : Type 0 where
  pub state : ClusterState
  pub stands : ClusterStandsFor image state node.cluster
  pub spelled : (IsEnd (by_order order) node.cluster × IsEndText order image state [] body)
      ⊎ (((ranks : List ℕ) × IsVerdictOf node.cluster (Some ranks) × OthersRunOn order ranks left node
      × (body ≡ company_text image state ranks))
      ⊎ (((ranks : List ℕ) × IsNeed ranks node.cluster × (body ≡ need_text image state ranks))
      ⊎ ((set : ℕ) × AreResting set node.cluster × HangsIfSendsWait (by_order order) node × (body ≡ hang_text image state set))))

-- what is told is that of an end, to which the outcome's turns lead by the order
pub record IsEndOutcome (order : List ℕ) (image : ImageParts) (outcome : Outcome) : Type 0 where
  pub node : Node
  pub led : IsWay (by_order order) (first_node image) outcome.way node
  pub end : IsEnd (by_order order) node.cluster
  pub state : ClusterState
  pub stands : ClusterStandsFor image state node.cluster
  pub told : IsEndText order image state [] outcome.body.items
  pub no_need : outcome.need ≡ false

-- or of the most ranks that are held up together, and need buffers, where they lead by the order
pub record IsNeedOutcome (order : List ℕ) (image : ImageParts) (outcome : Outcome) : Type 0 where
  pub node : Node
  pub led : IsWay (by_order order) (first_node image) outcome.way node
  pub ranks : List ℕ
  pub need : IsNeed ranks node.cluster
  pub state : ClusterState
  pub stands : ClusterStandsFor image state node.cluster
  pub told : outcome.body.items ≡ need_text image state ranks
  pub of_need : outcome.need ≡ true

-- or of the most ranks that are stuck together in a node that was found, to which they lead by the order, while others run on. No
-- move that was made leads on from there to an end that was found, and no end has this text
pub record IsStuckOutcome (order : List ℕ) (image : ImageParts) (found : Findings) (outcome : Outcome) : Type 0 where
  pub place : ℕ
  pub company : Company
  pub noted : slice_get found.companies place ≡ Some company
  pub told : IsStuckBody image found.kept company outcome.body.items
  pub node : Node
  pub led : IsWay (by_order order) (first_node image) outcome.way node
  pub stands : ClusterStandsFor image told.state node.cluster
  pub stuck : IsVerdictOf node.cluster (Some company.ranks.items)
  pub others : OthersRunOn order company.ranks.items found.left node
  pub unled : ¬ GoesTo found.leads found.ends company.node
  pub no_ends : outcome.ends ≡ 0
  pub no_need : outcome.need ≡ false

-- or of a node to which they lead by the order, from which runs hang if sends wait: it may still come to an end, but not if from
-- there on each standard send waits for its receive. The search left no state, and sends might wait in it. Just the ranks of the
-- set rest there
pub record IsHangOutcome (order : List ℕ) (image : ImageParts) (found : Findings) (outcome : Outcome) : Type 0 where
  pub all : found.left ≡ 0
  pub waiting : found.may_wait ≡ true
  pub node : Node
  pub led : IsWay (by_order order) (first_node image) outcome.way node
  pub hangs : HangsIfSendsWait (by_order order) node
  pub set : ℕ
  pub resting : AreResting set node.cluster
  pub state : ClusterState
  pub stands : ClusterStandsFor image state node.cluster
  pub told : outcome.body.items ≡ hang_text image state set
  pub no_ends : outcome.ends ≡ 0
  pub no_need : outcome.need ≡ false

abbrev pub IsOutcome : List ℕ → ImageParts → Findings → Outcome → Type 0
IsOutcome order image found outcome =
    IsEndOutcome order image outcome
    ⊎ (IsStuckOutcome order image found outcome
    ⊎ (IsNeedOutcome order image outcome ⊎ IsHangOutcome order image found outcome))

-- one that is printed while a search goes on: of an end, or of ranks that need buffers
abbrev pub IsHeard : List ℕ → ImageParts → Outcome → Type 0
IsHeard order image outcome = IsEndOutcome order image outcome ⊎ IsNeedOutcome order image outcome

-- ---- all of them

-- the text of one of these
abbrev pub HasBody : List Outcome → List ℕ → Type 0
HasBody told body = (k : ℕ) × (outcome : Outcome) × (slice_get told k ≡ Some outcome) × (outcome.body.items ≡ body)

-- no two have the same text
abbrev pub AreApart : List Outcome → Type 0
AreApart told =
    (i j : ℕ) (one other : Outcome) → slice_get told i ≡ Some one → slice_get told j ≡ Some other
    → one.body.items ≡ other.body.items → i ≡ j

-- the text of the most ranks that are held up together, and need buffers, where a run by the order leads, is told
pub record ListsNeed (image : ImageParts) (order : List ℕ) (told : List Outcome) : Type 0 where
  pub steps : List Step
  pub node : Node
  pub way : IsWay (by_order order) (first_node image) steps node
  pub ranks : List ℕ
  pub need : IsNeed ranks node.cluster
  pub state : ClusterState
  pub stands : ClusterStandsFor image state node.cluster
  pub listed : HasBody told (need_text image state ranks)

-- one of them is of ranks that need buffers
abbrev pub any_need : List Outcome → Bool
any_need told = list_any (λ outcome. outcome.need) told

-- the text of these ranks is told
abbrev pub TellsStuck : ImageParts → List KeptNode → List Outcome → Company → Type 0
TellsStuck image kept told company = (body : List ℕ) × HasBody told body × IsStuckBody image kept company body

-- ---- how many ends have a text

-- how many of these texts are this one
abbrev pub ends_with : List (List ℕ) → List ℕ → ℕ
ends_with bodies text = count_by (λ body. bytes_eq body text) bodies

-- of a text of each end, in their order: each is told, and each outcome says how many of them are its own
pub record AreCounted (order : List ℕ) (image : ImageParts) (found : Findings) (told : List Outcome) : Type 0 where
  pub bodies : List (List ℕ)
  pub many : length bodies ≡ length found.ends
  pub of : (k node : ℕ) (body : List ℕ) → slice_get found.ends k ≡ Some node → slice_get bodies k ≡ Some body
      → IsEndBody order image found.kept node body
  pub there : (k : ℕ) (body : List ℕ) → slice_get bodies k ≡ Some body → HasBody told body
  pub each : (k : ℕ) (outcome : Outcome) → slice_get told k ≡ Some outcome
      → outcome.ends ≡ ends_with bodies outcome.body.items

-- each is an outcome, and no two have the same text; each end that was found is told, with how many have its text, and so
-- are the ranks that are stuck in each node that leads to no end: of a node that does they are told at that end
pub record AreTold (order : List ℕ) (image : ImageParts) (found : Findings) (told : List Outcome) : Type 0 where
  pub each : (k : ℕ) (outcome : Outcome) → slice_get told k ≡ Some outcome → IsOutcome order image found outcome
  pub apart : AreApart told
  pub counted : AreCounted order image found told
  pub stuck : (k : ℕ) (company : Company) → slice_get found.companies k ≡ Some company
      → GoesTo found.leads found.ends company.node ⊎ TellsStuck image found.kept told company

-- the list of what is told of the image and the order, of a search within these bounds. If every send is buffered, it names
-- no ranks that need buffers. Otherwise, if ranks have one hart each, such ranks are looked for: either no run comes to any, or the
-- list names some, or it isn't known
pub record IsListOf (image : ImageParts) (order : List ℕ) (buffered : Bool) (states turns : ℕ) (told : List Outcome)
    : Type 0 where
  pub found : Findings
  pub searched : IsSearched image order buffered states turns found
  pub are : AreTold order image found told
  pub no_need : buffered ≡ true → any_need told ≡ false
  pub needs : Needs
  pub needs_are : SaysNeeds buffered image found (ListsNeed image order told) needs
