-- Orders of turns: whose turn it is, and whether it looks at a box and doesn't see what may be in it.
use Rattle.std.specs.Prelude.{ℕ, ◌≡◌, Bool, true, false, List, map}
use Rattle.cl_trace.specs.declared.events.Kind.{Kind}
use Rattle.cl_machine.specs.declared.steps.Step.{Step}
use Rattle.cl_machine.specs.Cluster.{Cluster, IsRun}
use Rattle.cl_order_laws.specs.Closed.{FollowPlans, Node, Plans}

abbrev pub is_miss : Kind → Bool
is_miss Kind.Miss = true
is_miss _ = false

-- of a step: whose rank's turn it is, and whether it looks at a box and doesn't see what may be in it
abbrev pub turn_of : Step → ℕ × Bool
turn_of e = (e.rank, is_miss e.kind)

-- the turns of an order lead to one cluster: runs that follow the plans and whose turns are the same have the same
-- steps, stamps and replies too
abbrev pub OneOrderLaw : Type 0
OneOrderLaw =
    (plans : Plans) (start : Node) (one other : List Step) (a b : Cluster) → IsRun start.cluster one a
    → IsRun start.cluster other b → FollowPlans plans start.had one → FollowPlans plans start.had other
    → map turn_of one ≡ map turn_of other
    → (one ≡ other) × (a ≡ b)
