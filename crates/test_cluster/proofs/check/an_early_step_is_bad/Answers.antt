use Rattle.std.proofs.Common.{◌≡◌, length}
use Rattle.cl_check.specs.Checks.{IsVerdict}
use Rattle.cl_check.specs.declared.checking.Verdict.{Verdict}
use Rattle.test_cluster.proofs.Checking.{too_early}
use Rattle.test_cluster.proofs.Merging.{ok_map}
use Rattle.test_cluster.proofs.check.an_early_step_is_bad.Goals as goal

pub returns : goal.returns
returns c = λ front cluster e ends early.
    let image = c.args.image.now in
    let steps = c.args.steps.now in
    ok_map (IsVerdict image steps) (λ found. found ≡ Verdict.BadAt (length front))
    (too_early image steps front cluster e ends early) c.check.result c.check.ensures
