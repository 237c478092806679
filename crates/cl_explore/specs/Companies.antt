-- Companies of ranks that are stuck, as they are noted of the nodes.
use Rattle.std.specs.Prelude.{ℕ, ◌≡◌, ◌⊎◌, List, [], ◌∷◌, ◌++◌, Option, Some, None, slice_get}
use Rattle.cl_machine.specs.Cluster.{Cluster}
use Rattle.cl_order_laws.specs.Closed.{Node}
use Rattle.cl_deadlock.specs.Why.{IsNoneFound, IsVerdictOf}
use Rattle.cl_explore.specs.declared.companies.Company.{Company}

-- the ranks that are stuck in a node stand behind the others, if there are any
abbrev pub NotesStuck : List Company → Option (List ℕ) → ℕ → List Company → Type 0
NotesStuck old None node new = new ≡ old
NotesStuck old (Some ranks) node new =
    (company : Company) × (company.node ≡ node) × (company.ranks.items ≡ ranks) × (new ≡ old ++ company ∷ [])

-- these are the most ranks that are stuck together in its node, and they are in a deadlock
abbrev pub IsCompanyAt : List Node → Company → Type 0
IsCompanyAt nodes company =
    (node : Node) × (slice_get nodes company.node ≡ Some node) × IsVerdictOf node.cluster (Some company.ranks.items)

-- one of them is noted of the node of this number
abbrev pub IsNoted : List Company → ℕ → Cluster → Type 0
IsNoted companies i cluster =
    (k : ℕ) × (company : Company) × (slice_get companies k ≡ Some company) × (company.node ≡ i)
    × IsVerdictOf cluster (Some company.ranks.items)

-- no hart waits there of ranks that are stuck together, or the most of them are noted
abbrev pub IsJudged : List Company → ℕ → Cluster → Type 0
IsJudged companies i cluster = IsNoneFound cluster ⊎ IsNoted companies i cluster
