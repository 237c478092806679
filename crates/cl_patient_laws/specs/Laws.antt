-- What the moves of a finished search tell of patient runs.
use Rattle.std.specs.Prelude.{ℕ, ◌≡◌, ◌⊎◌, Bool, false, true, IsTrue, List, [], ◌∷◌, Some}
use Rattle.std.specs.List.{slice_get}
use Rattle.cl_state.specs.Rank.{Rank}
use Rattle.cl_machine.specs.Cluster.{Cluster, IsRun}
use Rattle.cl_machine.specs.declared.steps.Step.{Step}
use Rattle.cl_order_laws.specs.Closed.{FollowPlans, IsDone, IsEnd, Node, Plans, had_after}
use Rattle.cl_order_laws.specs.Laws.{IsReached}
use Rattle.cl_order_laws.specs.Sure.{Goes, WhereverLeads}
use Rattle.cl_outcome_laws.specs.Unending.{IsAfter, NeverEnds}
use Rattle.cl_rest_laws.specs.Rests.{rests}
use Rattle.cl_reduction_laws.specs.Clusters.{IsGood, Search}
use Rattle.cl_reduction_laws.specs.Settled.{IsFit, IsSettled}
use Rattle.cl_contest_laws.specs.Lists.{IsOneOf, StartsWell}
use Rattle.cl_patient_laws.specs.Patient.{EndsPatiently, HangsIfSendsWait, NobodyGoes}

-- whether a move of rank r leads from the node of number i to that of number j: `moves r i j`
abbrev pub Moves : Type 0
Moves = ℕ → ℕ → ℕ → Bool

-- a node to which a move of the rank leads from this one settles what stands here
pub record HasMove (search : Search) (nodes : List Node) (moves : Moves) (r i : ℕ) (here : Node) : Type 0 where
  pub j : ℕ
  pub to : Node
  pub move : IsTrue (moves r i j)
  pub there : slice_get nodes j ≡ Some to
  pub settles : IsSettled search (IsOneOf (to ∷ [])) here.cluster

-- a turn of the rank leads from the one node to what the other settles
pub record IsMove (search : Search) (plans : Plans) (r : ℕ) (from to : Node) : Type 0 where
  pub new : Node
  pub goes : Goes plans r from new
  pub settles : IsSettled search (IsOneOf (to ∷ [])) new.cluster

-- a closed list, and which ranks' moves lead from which of its nodes to which
pub record IsMoveGraph (search : Search) (plans : Plans) (nodes : List Node) (moves : Moves) : Type 0 where
  pub closed : (i r : ℕ) (node : Node) (rank : Rank) → slice_get nodes i ≡ Some node
      → slice_get node.cluster.ranks r ≡ Some rank
      → IsDone (plans r) rank ⊎ WhereverLeads plans node r (HasMove search nodes moves r i)
  pub fit : (i : ℕ) (node : Node) → slice_get nodes i ≡ Some node → IsFit search node.cluster
  pub leads : (r i j : ℕ) (from to : Node) → IsTrue (moves r i j) → slice_get nodes i ≡ Some from → slice_get nodes j ≡ Some to
      → IsMove search plans r from to

-- no move of a rank that doesn't rest leaves these nodes, and none of them is an end
pub record IsPatientTrap (plans : Plans) (nodes : List Node) (moves : Moves) (inside : ℕ → Type 0) : Type 0 where
  pub stays : (r i j : ℕ) (node : Node) → inside i → IsTrue (moves r i j) → slice_get nodes i ≡ Some node
      → rests node.cluster r 0 ≡ false → inside j
  pub no_end : (i : ℕ) (node : Node) → inside i → slice_get nodes i ≡ Some node → ¬ IsEnd plans node.cluster

-- of a search in which standard sends may wait for their receives: no rank goes first that rests
pub record PatientLaw : Type 0 where
  -- from inside a trap no patient turns lead to an end
  pub never : (search : Search) (plans : Plans) (nodes : List Node) (moves : Moves) (inside : ℕ → Bool) (start : Node)
      → search.may_wait ≡ true → StartsWell search plans start.cluster → IsMoveGraph search plans nodes moves
      → IsPatientTrap plans nodes moves (λ i. IsTrue (inside i))
      → (i : ℕ) (node : Node) → IsTrue (inside i) → slice_get nodes i ≡ Some node → IsGood search node.cluster
      → ¬ EndsPatiently plans node
  -- where a rank that doesn't rest moves to a node from which patient turns lead to an end, some do from the node before it
  pub path : (search : Search) (plans : Plans) (nodes : List Node) (moves : Moves) (start : Node)
      → search.may_wait ≡ true → StartsWell search plans start.cluster → IsMoveGraph search plans nodes moves
      → (r i j : ℕ) (from to : Node) → IsTrue (moves r i j) → slice_get nodes i ≡ Some from → slice_get nodes j ≡ Some to
      → IsGood search from.cluster → IsGood search to.cluster → rests from.cluster r 0 ≡ false
      → EndsPatiently plans to
      → EndsPatiently plans from
  -- where from each node patient turns lead to an end, no run leads to where it hangs if sends wait
  pub none : (search : Search) (plans : Plans) (nodes : List Node) (moves : Moves) (start : Node)
      → search.may_wait ≡ true → StartsWell search plans start.cluster → IsSettled search (IsOneOf nodes) start.cluster
      → IsMoveGraph search plans nodes moves
      → ((i : ℕ) (node : Node) → slice_get nodes i ≡ Some node → EndsPatiently plans node)
      → (steps : List Step) (end : Cluster) → IsRun start.cluster steps end → FollowPlans plans start.had steps
      → (let last : Node = record { cluster = end; had = had_after start.had steps } in ¬ HangsIfSendsWait plans last)
  -- and where from some nodes no turns lead to an end, it may so happen, but then some turns lead from there to where none do, with
  -- buffers or without
  pub all : (search : Search) (plans : Plans) (nodes : List Node) (moves : Moves) (start : Node)
      → search.may_wait ≡ true → StartsWell search plans start.cluster → IsSettled search (IsOneOf nodes) start.cluster
      → IsMoveGraph search plans nodes moves
      → ((i : ℕ) (node : Node) → slice_get nodes i ≡ Some node → EndsPatiently plans node ⊎ NeverEnds plans node)
      → (steps : List Step) (end : Cluster) → IsRun start.cluster steps end → FollowPlans plans start.had steps
      → (let last : Node = record { cluster = end; had = had_after start.had steps } in HangsIfSendsWait plans last
      → (there : Node) × IsAfter plans last there × NeverEnds plans there)

pub record EndLaw : Type 0 where
  -- at an end nobody can go on
  pub nobody : (plans : Plans) (c : Cluster) → IsEnd plans c → NobodyGoes plans c
  -- so from there patient turns lead to an end: none at all
  pub at_end : (plans : Plans) (here : Node) → IsEnd plans here.cluster → EndsPatiently plans here
