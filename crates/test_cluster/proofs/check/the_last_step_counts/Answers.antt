use Rattle.std.proofs.Common.{◌≡◌, length}
use Rattle.cl_check.specs.Checks.{IsVerdict}
use Rattle.cl_check.specs.declared.checking.Verdict.{Verdict}
use Rattle.test_cluster.proofs.Checking.{no_step}
use Rattle.test_cluster.proofs.Merging.{ok_map}
use Rattle.test_cluster.proofs.check.the_last_step_counts.Goals as goal

pub returns : goal.returns
returns c = λ front cluster e ends nowhere.
    let image = c.args.image.now in
    let steps = c.args.steps.now in
    ok_map (IsVerdict image steps) (λ found. found ≡ Verdict.BadAt (length front))
    (no_step image steps front cluster e ends nowhere) c.check.result c.check.ensures
