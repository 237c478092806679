-- What replays are refused for.
use Rattle.std.specs.Prelude.{ℕ, ◌≡◌, ◌<◌, List, Result, Err, IfErr}
use Rattle.std.proofs.Common.{subst, arith}
use Rattle.rv_image_types.specs.declared.images.ImageParts.{ImageParts}
use Rattle.cl_machine.specs.declared.steps.Step.{Step}
use Rattle.cl_machine.specs.Cluster.{loaded_cluster}
use Rattle.cl_replay.specs.declared.states.ClusterState.{ClusterState}
use Rattle.cl_replay.specs.Replaying.{IsReached}
use Rattle.cl_replay.specs.InnerReplaying.{BreaksAt}
use Rattle.cl_replay.specs.States.{ClusterStandsFor}
use Rattle.cl_replay.proofs.Runs.{run_law}

-- what holds of a refusal holds of the one that is known
pub of_fault : {T E : Type 0} (P : E → Type 0) (result : Result T E) (e : E) → result ≡ Err e → IfErr result P → P e
of_fault P result e is holds = subst (λ r. IfErr r P) is holds

-- a list breaks in one place at most
pub one_break : (image : ImageParts) (steps : List Step) (j k : ℕ) → BreaksAt image steps j → BreaksAt image steps k
    → j ≡ k
one_break image steps j k at_j at_k =
    let not_before : ¬ (j < k) = λ below. run_law image steps k j (at_k.cluster, at_k.run) below at_j in
    let not_behind : ¬ (k < j) = λ below. run_law image steps j k (at_j.cluster, at_j.run) below at_k in
    omega (arith, not_before, not_behind)

pub reached_none : (image : ImageParts) (steps : List Step) (state : ClusterState) → IsReached image steps 0 state
    → ClusterStandsFor image state (loaded_cluster image)
reached_none image steps state reached = subst (ClusterStandsFor image state) reached.run reached.stands
