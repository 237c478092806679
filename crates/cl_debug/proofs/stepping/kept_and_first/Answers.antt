use Rattle.std.proofs.Common.{◌≡◌, ◌*◌, ◌<◌, arith, subst, length, refl}
use Rattle.std.proofs.lemmas.Option.{slice_get_read}
use Rattle.cl_debug.specs.Leads.{IsKeptAt}
use Rattle.cl_debug.proofs.stepping.kept_and_first.Goals as goal

pub returns-clause-first : goal.returns-clause-first
returns-clause-first c =
    let image = c.args.image.now in
    let steps = c.args.steps.now in
    let kept = c.in_ok-kept.kept.items in
    let first = c.index.result.now in
    let all = c.in_ok-kept.ensures.kept in
    let some : 0 < length kept = omega (arith, all.count) in
    let at_first = all.reached 0 first (slice_get_read kept (length kept) 0 first refl some c.index.ensures) in
    let start = subst (λ n. IsKeptAt image steps n first) (let e : 0 * c.args.spacing ≡ 0 = omega arith in e) at_first in
    start c.in_ok-first.first c.in_ok-first.ensures
