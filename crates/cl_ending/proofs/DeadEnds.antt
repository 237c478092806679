-- Where the steps of a record lead.
use Rattle.std.specs.Prelude.{ℕ, ◌≡◌, List, length, take, Option, None, Some}
use Rattle.std.proofs.Common.{◌∙◌, subst}
use Rattle.std.proofs.Math.Seq.{take-length}
use Rattle.rv_image_types.specs.Image.{IsImage}
use Rattle.rv_image_types.specs.declared.images.ImageParts.{ImageParts}
use Rattle.cl_deadlock.specs.Why.{IsDeadlockVerdict, IsFound, IsNoneFound, IsVerdictOf}
use Rattle.cl_ending.specs.DeadEnds.{HasAll, IsNotStuckAt, IsStuckAt}
use Rattle.cl_ending.specs.Judged.{IsVerdictAt}
use Rattle.cl_machine.specs.Cluster.{IsRun, loaded_cluster}
use Rattle.cl_machine.specs.Merge.{IsMerge}
use Rattle.cl_machine.specs.declared.steps.Step.{Step}
use Rattle.cl_record.specs.Records.{IsMergedRun, steps_in}
use Rattle.cl_record.specs.declared.records.Record.{Record}
use Rattle.cl_replay_laws.proofs.Records.{merged_replays}
use Rattle.cl_replay.specs.InnerReplaying.{BreaksAt, ReplayFaultHolds}
use Rattle.cl_replay.specs.Replaying.{IsReached}
use Rattle.cl_replay.specs.declared.replaying.ReplayFault.{ReplayFault}
use Rattle.cl_replay.specs.declared.replaying.ReplayFault.TheVariants as replay
use Rattle.cl_replay.specs.declared.states.ClusterState.{ClusterState}

-- the verdict on the state to which all steps lead
module _ (image : ImageParts) (left : Record) (sorted steps : List Step) (n : ℕ) (state : ClusterState)
    (right : IsImage image) (is : IsMerge (steps_in left) sorted) (same : steps ≡ sorted) (all : n ≡ length sorted)
    (reached : IsReached image steps n state) where
  run : IsRun (loaded_cluster image) sorted reached.cluster
  run = subst (λ es. IsRun (loaded_cluster image) es reached.cluster)
      ((λ i. take (all i) (same i)) ∙ take-length sorted) reached.run

  pub verdict_at : (found : Option (List ℕ)) → IsDeadlockVerdict state found → IsVerdictAt image left found
  verdict_at found verdict = record {
    steps = sorted;
    sorted = is;
    final = reached.cluster;
    run = run;
    verdict = verdict image reached.cluster
        (record { right = right; reached = (sorted, run); stands = reached.stands });
  }

-- ---- who is stuck

pub none_stuck : (image : ImageParts) (left : Record) (found : Option (List ℕ)) → found ≡ None
    → IsVerdictAt image left found → IsNotStuckAt image left
none_stuck image left found none at = record {
  steps = at.steps;
  sorted = at.sorted;
  final = at.final;
  run = at.run;
  goes_on = λ ranks is all.
      let verdict : IsNoneFound at.final = subst (IsVerdictOf at.final) none at.verdict in
      verdict ranks is.are_ranks is.stuck is.deadlock.waits;
}

pub some_stuck : (image : ImageParts) (left : Record) (found : Option (List ℕ)) (ranks : List ℕ) → found ≡ Some ranks
    → IsVerdictAt image left found → HasAll ranks left.stops.items → IsStuckAt image left
some_stuck image left found ranks some at all = record {
  ranks = ranks;
  dead_end = record {
    steps = at.steps;
    sorted = at.sorted;
    final = at.final;
    run = at.run;
    found = subst (IsVerdictOf at.final) some at.verdict;
  };
  all = all;
}

-- whoever is found has all that are stuck: so where these aren't all that go on, no others are
pub some_free : (image : ImageParts) (left : Record) (found : Option (List ℕ)) (ranks : List ℕ) → found ≡ Some ranks
    → IsVerdictAt image left found → ¬ HasAll ranks left.stops.items → IsNotStuckAt image left
some_free image left found ranks some at not_all = record {
  steps = at.steps;
  sorted = at.sorted;
  final = at.final;
  run = at.run;
  goes_on = λ others is all.
      let verdict : IsFound ranks at.final = subst (IsVerdictOf at.final) some at.verdict in
      not_all (λ r stop there other. verdict.most others is.are_ranks is.stuck r (all r stop there other));
}

-- a step is wrong at which a replay ended
pub breaks_at : (image : ImageParts) (steps : List Step) (n k : ℕ) (fault : ReplayFault) → fault ≡ replay.Step k
    → ReplayFaultHolds image steps n fault → BreaksAt image steps k
breaks_at image steps n k fault at_step holds =
    let at : ReplayFaultHolds image steps n (replay.Step k) =
    subst (λ (f : ReplayFault). ReplayFaultHolds image steps n f) at_step holds in at.2

-- none of a record's steps, in order, is refused as one that isn't the machine's
pub no_break : (image : ImageParts) (left : Record) (sorted steps : List Step) → IsMergedRun image left
    → IsMerge (steps_in left) sorted → steps ≡ sorted → (k : ℕ) → ¬ (BreaksAt image steps k)
no_break image left sorted steps merged is same k breaks =
    (merged_replays image left sorted merged is).unbroken k (subst (λ (s : List Step). BreaksAt image s k) same breaks)
