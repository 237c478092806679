use Rattle.std.proofs.Common.{◌≡◌, length}
use Rattle.cl_check.specs.Checks.{IsVerdict}
use Rattle.cl_check.specs.declared.checking.Verdict.{Verdict}
use Rattle.test_cluster.proofs.Checking.{no_step, takes_at_another}
use Rattle.test_cluster.proofs.Merging.{ok_map}
use Rattle.test_cluster.proofs.check.a_take_at_another_stamp_is_bad.Goals as goal

pub returns : goal.returns
returns c = λ front cluster e ends takes.
    let image = c.args.image.now in
    let steps = c.args.steps.now in
    ok_map (IsVerdict image steps) (λ found. found ≡ Verdict.BadAt (length front))
    (no_step image steps front cluster e ends (takes_at_another cluster e takes)) c.check.result c.check.ensures
