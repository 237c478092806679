use Rattle.std.proofs.Common.{◌≡◌, ◌+◌, ◌∷◌, [], ◌++◌, length, length-append, subst}
use Rattle.cl_check.specs.Checks.{IsVerdict}
use Rattle.cl_check.specs.declared.checking.Verdict.{Verdict}
use Rattle.test_cluster.proofs.Checking.{not_twice, too_early}
use Rattle.test_cluster.proofs.Merging.{ok_map}
use Rattle.test_cluster.proofs.check.a_stamp_twice_is_bad.Goals as goal

pub returns : goal.returns
returns c = λ front cluster one two ends stamp rank.
    let image = c.args.image.now in
    let steps = c.args.steps.now in
    let early = not_twice front one two stamp rank in
    ok_map (IsVerdict image steps) (λ found. found ≡ Verdict.BadAt (length front + 1))
    (λ found is.
    subst (λ n. found ≡ Verdict.BadAt n) (length-append front (one ∷ []))
    (too_early image steps (front ++ one ∷ []) cluster two ends early found is))
    c.check.result c.check.ensures
