-- Runs in which, from some state on, each standard send waits for its receive, as if it were synchronous (MPI 4.1, 3.4). A program is
-- safe if it comes to its end in such a run too (3.5).
use Rattle.std.specs.Prelude.{ℕ, ◌≡◌, false, List, [], ◌∷◌, Some}
use Rattle.std.specs.List.{slice_get}
use Rattle.cl_state.specs.Rank.{Rank}
use Rattle.cl_machine.specs.Cluster.{Cluster}
use Rattle.cl_order_laws.specs.Closed.{Node, Plans}
use Rattle.cl_order_laws.specs.Sure.{Goes}
use Rattle.cl_outcome_laws.specs.Unending.{MayEnd}
use Rattle.cl_rest_laws.specs.Rests.{rests}
use Rattle.cl_reduction_laws.specs.Clusters.{IsStill}

-- a turn by its plan of a rank that doesn't rest: it neither stands behind a standard send whose message nobody received, nor before a
-- call that completes one
pub record GoesPatiently (plans : Plans) (r : ℕ) (old new : Node) : Type 0 where
  pub goes : Goes plans r old new
  pub awaits_none : rests old.cluster r (plans r (old.had r)) ≡ false

-- such turns of these ranks, one behind the other
abbrev pub GoesOnPatiently : Plans → List ℕ → Node → Node → Type 0
GoesOnPatiently plans [] old new = new ≡ old
GoesOnPatiently plans (r ∷ rs) old new = (mid : Node) × GoesPatiently plans r old mid × GoesOnPatiently plans rs mid new

-- nobody can go on: each hart that its plan names is stopped, or its call finds nothing and is made anew, or would be
abbrev pub NobodyGoes : Plans → Cluster → Type 0
NobodyGoes plans c = (r n : ℕ) (rank : Rank) → slice_get c.ranks r ≡ Some rank → IsStill c r rank (plans r n)

-- some patient turns lead from here to where nobody can go on
pub record EndsPatiently (plans : Plans) (here : Node) : Type 0 where
  pub ranks : List ℕ
  pub there : Node
  pub way : GoesOnPatiently plans ranks here there
  pub nobody : NobodyGoes plans there.cluster

-- some turns lead from here to an end, but no patient ones do: if each send waits from here on, every run goes on for ever, or comes to
-- where nobody goes on but ranks that rest
pub record HangsIfSendsWait (plans : Plans) (here : Node) : Type 0 where
  pub ends : MayEnd plans here
  pub never : ¬ EndsPatiently plans here
