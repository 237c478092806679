-- Sure turns: where a rank's next turn can be taken before whatever others do, only that rank has to be followed.
use Rattle.std.specs.Prelude.{ℕ, zero, suc, ◌<◌, ◌≤◌, ◌≡◌, ◌≢◌, ◌⊎◌, List, [], ◌∷◌, length, slice_get, Some}
use Rattle.cl_state.specs.Asked.{asked}
use Rattle.cl_state.specs.Rank.{Rank}
use Rattle.cl_machine.specs.declared.steps.Step.{Step}
use Rattle.cl_machine.specs.Cluster.{Cluster, IsRun}
use Rattle.cl_order_laws.specs.Alike.{Leads, hub_of}
use Rattle.cl_order_laws.specs.Closed.{FollowPlans, IsCovered, IsDone, IsEnd, Node, Plans, one_more}
use Rattle.cl_order_laws.specs.Laws.{AreAlike}
use Rattle.cl_order_laws.specs.Splits.{HasAlike}
use Rattle.cl_order_laws.specs.SureAsks.{IsSureAsk}

-- ---- turns of ranks, by their plans

-- a turn of the hart whose turn it is in the rank leads from the one to the other
pub record Goes (plans : Plans) (r : ℕ) (old new : Node) : Type 0 where
  pub step : Step
  pub rank : step.rank ≡ r
  pub hart : step.hart ≡ plans r (old.had r)
  pub leads : Leads old.cluster step new.cluster
  pub had : new.had ≡ one_more old.had r

-- turns of these ranks, one behind the other
abbrev pub GoesOn : Plans → List ℕ → Node → Node → Type 0
GoesOn plans [] old new = new ≡ old
GoesOn plans (r ∷ rs) old new = (mid : Node) × Goes plans r old mid × GoesOn plans rs mid new

-- this rank isn't among them
abbrev pub AreOthers : ℕ → List ℕ → Type 0
AreOthers r [] = Unit {0}
AreOthers r (s ∷ ss) = (s ≢ r) × AreOthers r ss

-- wherever the rank's next turn may lead, this holds
abbrev pub WhereverLeads : Plans → Node → ℕ → (Node → Type 0) → Type 0
WhereverLeads plans node r P =
    (e : Step) (new : Cluster) → e.rank ≡ r → e.hart ≡ plans r (node.had r) → Leads node.cluster e new
    → P (record { cluster = new; had = one_more node.had r })

-- ---- sure turns

-- no more sends, receives and claims were posted than so many. A hub holds 65,536 messages, and who collects one makes
-- room for a send that is refused else
abbrev pub HasPostsWithin : ℕ → Cluster → Type 0
HasPostsWithin most cluster = length (hub_of cluster.journal).board.lines ≤ most

-- a turn of rank r and then one of rank s lead to a cluster that is alike the new one
pub record IsFirst (plans : Plans) (r s : ℕ) (old new : Node) : Type 0 where
  pub mid : Node
  pub last : Node
  pub first : Goes plans r old mid
  pub then : Goes plans s mid last
  pub alike : AreAlike new.cluster last.cluster

-- whatever turns others take first, while no more than so many posts are made: the rank can go on and asks for nothing
-- in vain, where they lead is no end, and a turn of the rank behind one of another rank could have been before it
pub record IsSure (plans : Plans) (most : ℕ) (here : Node) (r : ℕ) : Type 0 where
  pub goes : (ss : List ℕ) (there : Node) → AreOthers r ss → GoesOn plans ss here there
      → HasPostsWithin most there.cluster
      → (new : Node) × Goes plans r there new × HasPostsWithin most new.cluster
  pub asks : (ss : List ℕ) (there : Node) → AreOthers r ss → GoesOn plans ss here there
      → HasPostsWithin most there.cluster
      → (rank : Rank) → slice_get there.cluster.ranks r ≡ Some rank
      → IsSureAsk there.cluster r (asked rank (plans r (there.had r)))
  pub no_end : (ss : List ℕ) (there : Node) → AreOthers r ss → GoesOn plans ss here there
      → HasPostsWithin most there.cluster → ¬ IsEnd plans there.cluster
  pub before : (ss : List ℕ) (there mid new : Node) (s : ℕ) → AreOthers r ss → GoesOn plans ss here there → s ≢ r
      → Goes plans s there mid → Goes plans r mid new → HasPostsWithin most new.cluster
      → IsFirst plans r s there new

-- in so many stages at most it leads to one that is covered: by turns that need only their ranks to one that is alike,
-- or by a turn of a rank that is sure, wherever it may lead
abbrev pub Settles : Plans → ℕ → List Node → ℕ → Node → Type 0
Settles plans most nodes zero here = IsCovered plans nodes here
Settles plans most nodes (suc n) here =
    IsCovered plans nodes here
    ⊎ (((there : Node) × IsCovered plans (there ∷ []) here × Settles plans most nodes n there)
    ⊎ ((r : ℕ) × IsSure plans most here r × WhereverLeads plans here r (Settles plans most nodes n)))

abbrev pub IsSettledBy : Plans → ℕ → List Node → Node → Type 0
IsSettledBy plans most nodes here = (n : ℕ) × Settles plans most nodes n here

-- ---- closed sets

-- of each node: one rank is sure, and wherever its next turn may lead is settled; or that is so of each rank, unless
-- all harts that its plan names are stopped
pub record IsClosedBySure (plans : Plans) (most : ℕ) (nodes : List Node) : Type 0 where
  pub each : (i : ℕ) (node : Node) → slice_get nodes i ≡ Some node
      → ((r : ℕ) × IsSure plans most node r × WhereverLeads plans node r (IsSettledBy plans most nodes))
      ⊎ ((r : ℕ) (rank : Rank) → slice_get node.cluster.ranks r ≡ Some rank
      → IsDone (plans r) rank ⊎ WhereverLeads plans node r (IsSettledBy plans most nodes))

-- it has each end with no more posts than so many: of every run that follows the plans, of any length and with any
-- order of the ranks. Clusters on the way may be alike none of the nodes
abbrev pub SureLaw : Type 0
SureLaw =
    (plans : Plans) (most : ℕ) (nodes : List Node) (start : Node) → IsSettledBy plans most nodes start
    → IsClosedBySure plans most nodes
    → (steps : List Step) (end : Cluster) → IsRun start.cluster steps end → FollowPlans plans start.had steps
    → IsEnd plans end → HasPostsWithin most end
    → HasAlike nodes end

-- ---- and with fewer posts at each node

-- of each node: wherever the next turn of each rank may lead is settled, unless all harts that its plan names are
-- stopped; and fewer posts were made than so many. So turns of sure ranks never go round in a ring, leaving others
-- behind
pub record IsClosedAtOnce (plans : Plans) (most : ℕ) (nodes : List Node) : Type 0 where
  pub each : (i r : ℕ) (node : Node) (rank : Rank) → slice_get nodes i ≡ Some node
      → slice_get node.cluster.ranks r ≡ Some rank
      → IsDone (plans r) rank ⊎ WhereverLeads plans node r (IsSettledBy plans most nodes)
  pub few : (i : ℕ) (node : Node) → slice_get nodes i ≡ Some node
      → length (hub_of node.cluster.journal).board.lines < most

-- then no run makes as many, and the list has each end
pub record AtOnceLaw : Type 0 where
  pub few : (plans : Plans) (most : ℕ) (nodes : List Node) (start : Node) → IsSettledBy plans most nodes start
      → HasPostsWithin most start.cluster → IsClosedAtOnce plans most nodes
      → (steps : List Step) (end : Cluster) → IsRun start.cluster steps end → FollowPlans plans start.had steps
      → length (hub_of end.journal).board.lines < most
  pub ends : (plans : Plans) (most : ℕ) (nodes : List Node) (start : Node) → IsSettledBy plans most nodes start
      → HasPostsWithin most start.cluster → IsClosedAtOnce plans most nodes
      → (steps : List Step) (end : Cluster) → IsRun start.cluster steps end → FollowPlans plans start.had steps
      → IsEnd plans end
      → HasAlike nodes end
