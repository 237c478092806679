use Rattle.std.proofs.Common.{◌≡◌, [], refl}
use Rattle.cl_check.specs.Checks.{IsVerdict}
use Rattle.cl_check.specs.declared.checking.Verdict.{Verdict}
use Rattle.test_cluster.proofs.Checking.{nothing_is_good}
use Rattle.test_cluster.proofs.Merging.{ok_map}
use Rattle.test_cluster.proofs.check.no_steps_are_good.Goals as goal

pub returns : goal.returns
returns c =
    let image = c.args.image.now in
    ok_map (IsVerdict image []) (λ found. found ≡ Verdict.Good) (nothing_is_good image [] refl) c.check.result
    c.check.ensures
