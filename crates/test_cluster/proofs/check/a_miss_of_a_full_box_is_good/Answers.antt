use Rattle.std.proofs.Common.{◌≡◌}
use Rattle.cl_check.specs.Checks.{IsVerdict}
use Rattle.cl_check.specs.declared.checking.Verdict.{Verdict}
use Rattle.test_cluster.proofs.Checking.{good_with_last, misses_full}
use Rattle.test_cluster.proofs.Merging.{ok_map}
use Rattle.test_cluster.proofs.check.a_miss_of_a_full_box_is_good.Goals as goal

pub returns : goal.returns
returns c = λ front cluster e ends comes miss.
    let image = c.args.image.now in
    let steps = c.args.steps.now in
    let next = misses_full cluster e miss in
    ok_map (IsVerdict image steps) (λ found. found ≡ Verdict.Good)
    (good_with_last image steps front cluster e ends next.0 next.1 comes) c.check.result c.check.ensures
