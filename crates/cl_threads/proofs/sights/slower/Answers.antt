use Rattle.std.proofs.Common.{subst, ap, ◌∙◌}
use Rattle.std.specs.Prelude.{Some}
use Rattle.cl_threads.specs.Pacing.{IsSlowest}
use Rattle.cl_threads.proofs.Paced.{with_faster}
use Rattle.cl_threads.proofs.sights.slower.Goals as goal

pub returns-in-Some-slowest : goal.returns-in-Some-slowest
returns-in-Some-slowest c =
    λ counts before there.
    with_faster counts c.args.rank c.in-Some.turns c.in-Some-slowest.seen
    (subst (λ s. IsSlowest counts c.args.rank s) c.in-Some-slowest.is before)
    (there ∙ ap (λ x. Some x) c.in-Some.is) c.if-seen-turns.true
