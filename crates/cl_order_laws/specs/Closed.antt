-- Closed sets of clusters, and the ends of runs.
use Rattle.std.specs.Prelude.{ℕ, zero, suc, ◌+◌, ◌≡◌, ◌==◌, ◌⊎◌, List, [], ◌∷◌, cond, length, slice_get, Some}
use Rattle.mp_types.specs.declared.replies.Reply.TheVariants.{NotYet}
use Rattle.mp_alike_laws.specs.Renaming.{Renaming}
use Rattle.mp_alike_laws.specs.Alike.{AlikeHubs}
use Rattle.cl_state.specs.declared.asking.Answer.{Answer}
use Rattle.cl_state.specs.declared.asking.Ask.{Ask}
use Rattle.cl_state.specs.Asked.{asked}
use Rattle.cl_state.specs.Rank.{Rank}
use Rattle.cl_state.specs.Told.{told}
use Rattle.cl_state_laws.specs.Vain.{IsPatient, IsStopped, mode_of}
use Rattle.cl_machine.specs.declared.steps.Step.{Step}
use Rattle.cl_machine.specs.Boxes.{Box, IsEmpty, box_number}
use Rattle.cl_machine.specs.Cluster.{Cluster}
use Rattle.cl_machine.specs.Journal.{reply_in}
use Rattle.cl_order_laws.specs.Alike.{AlikeBoxes, AlikeRanks, AreEach, Leads, hub_of}

-- ---- plans

-- which hart takes the n-th turn of a rank, by its plan
abbrev pub Plans : Type 0
Plans = ℕ → ℕ → ℕ

-- how many turns each rank has had
abbrev pub Turns : Type 0
Turns = ℕ → ℕ

abbrev pub none_had : Turns
none_had r = 0

abbrev pub one_more : Turns → ℕ → Turns
one_more had r = λ s. cond (s == r) (had s + 1) (had s)

-- the turns of a list of steps, behind those that were had
abbrev pub had_after : Turns → List Step → Turns
had_after had [] = had
had_after had (e ∷ es) = had_after (one_more had e.rank) es

-- each step is one of the hart whose turn it is in its rank
abbrev pub FollowPlans : Plans → Turns → List Step → Type 0
FollowPlans plans had [] = Unit {0}
FollowPlans plans had (e ∷ es) = (e.hart ≡ plans e.rank (had e.rank)) × FollowPlans plans (one_more had e.rank) es

-- from both places of a plan on the same harts take turns
abbrev pub IsSamePlace : (ℕ → ℕ) → ℕ → ℕ → Type 0
IsSamePlace plan n m = (k : ℕ) → plan (n + k) ≡ plan (m + k)

-- each hart that the plan names is stopped
abbrev pub IsDone : (ℕ → ℕ) → Rank → Type 0
IsDone plan rank = (n : ℕ) → IsStopped (mode_of rank (plan n))

-- ---- turns that need only their rank

abbrev pub NeedsOnlyRank : Ask → Type 0
NeedsOnlyRank Ask.Plain = Unit {0}
NeedsOnlyRank Ask.Local = Unit {0}
NeedsOnlyRank Ask.Held = Unit {0}
NeedsOnlyRank Ask.Idle = Unit {0}
NeedsOnlyRank _ = ⊥

-- where n turns of that kind lead, by the plan
abbrev pub IsAhead : (ℕ → ℕ) → ℕ → Rank → ℕ → Rank → ℕ → Type 0
IsAhead plan zero rank had then after = (then ≡ rank) × (after ≡ had)
IsAhead plan (suc n) rank had then after =
    NeedsOnlyRank (asked rank (plan had))
    × IsAhead plan n (told rank (plan had) Answer.Alone (rank.clock + 1)) (had + 1) then after

-- ---- nodes

-- a cluster, and how many turns each rank has had
pub record Node : Type 0 where
  pub cluster : Cluster
  pub had : Turns

-- some turns of a rank that need only itself lead to one that is alike the other, at the same place of its plan, unless
-- all that the plan names are stopped
pub record IsBehind (plan : ℕ → ℕ) (names : Renaming) (rank : Rank) (had : ℕ) (other : Rank) (theirs : ℕ) : Type 0 where
  pub turns : ℕ
  pub then : Rank
  pub after : ℕ
  pub ahead : IsAhead plan turns rank had then after
  pub alike : AlikeRanks names then other
  pub place : IsSamePlace plan after theirs ⊎ IsDone plan then

-- one of the nodes is alike the cluster, once each rank took some turns that need only itself
pub record IsCovered (plans : Plans) (nodes : List Node) (here : Node) : Type 0 where
  pub index : ℕ
  pub node : Node
  pub there : slice_get nodes index ≡ Some node
  pub names : Renaming
  pub many : length node.cluster.ranks ≡ length here.cluster.ranks
  pub ranks : (r : ℕ) (rank : Rank) → slice_get here.cluster.ranks r ≡ Some rank
      → (other : Rank) × (slice_get node.cluster.ranks r ≡ Some other)
      × IsBehind (plans r) names rank (here.had r) other (node.had r)
  pub hubs : AlikeHubs names (hub_of here.cluster.journal) (hub_of node.cluster.journal)
  pub boxes : AreEach AlikeBoxes here.cluster.boxes node.cluster.boxes

-- of each node and each rank: all harts that its plan names are stopped, or wherever its next turn may lead is covered,
-- a look that misses too
pub record IsClosed (plans : Plans) (nodes : List Node) : Type 0 where
  pub each : (i r : ℕ) (node : Node) (rank : Rank) → slice_get nodes i ≡ Some node
      → slice_get node.cluster.ranks r ≡ Some rank
      → IsDone (plans r) rank
      ⊎ ((e : Step) (new : Cluster) → e.rank ≡ r → e.hart ≡ plans r (node.had r) → Leads node.cluster e new
      → IsCovered plans nodes (record { cluster = new; had = one_more node.had r }))

-- ---- ends

-- what is asked isn't there
abbrev pub IsInVain : Cluster → ℕ → Ask → Type 0
IsInVain cluster r (Ask.Hub request) = reply_in cluster.journal r request ≡ NotYet
IsInVain cluster r (Ask.Look link part) =
    (box : Box) → slice_get cluster.boxes (box_number link part) ≡ Some box → IsEmpty box
IsInVain cluster r (Ask.Freed link part) =
    (box : Box) → slice_get cluster.boxes (box_number link part) ≡ Some box → ¬ IsEmpty box
IsInVain cluster r Ask.Held = Unit {0}
IsInVain cluster r _ = ⊥

-- the hart waits, and what it waits for isn't there
abbrev pub WaitsInVain : Cluster → ℕ → Rank → ℕ → Type 0
WaitsInVain cluster r rank hart = IsPatient rank hart × IsInVain cluster r (asked rank hart)

-- nobody goes on: each hart that its plan names is stopped, or waits in vain
abbrev pub IsEnd : Plans → Cluster → Type 0
IsEnd plans cluster =
    (r n : ℕ) (rank : Rank) → slice_get cluster.ranks r ≡ Some rank
    → IsStopped (mode_of rank (plans r n)) ⊎ WaitsInVain cluster r rank (plans r n)
