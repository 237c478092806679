use Rattle.std.proofs.Common.{◌≡◌, true, sym, subst, ◌∙◌}
use Rattle.cl_reduction_laws.specs.Patterns.{IsAllowed, initialisation, pattern_of_request}
use Rattle.cl_contests.specs.Kept.{patterns_of}
use Rattle.cl_contests.proofs.patterns.Patterns.allow_request.Goals as goal

pub returns-in-Send-clause-allowed : goal.returns-in-Send-clause-allowed
returns-in-Send-clause-allowed c = λ its.
    subst (λ q. IsAllowed (patterns_of c.args.self.now.kept.items) c.args.rank (pattern_of_request c.args.waits q))
    (sym c.in-Send.is) (sym c.has.ensures ∙ its)

pub returns-in-Init-clause-allowed : goal.returns-in-Init-clause-allowed
returns-in-Init-clause-allowed c = λ its.
    let patterns = patterns_of c.args.self.now.kept.items in
    let i = c.in-Init in
    subst (λ q. IsAllowed patterns c.args.rank (pattern_of_request c.args.waits q)) (sym i.is)
    (subst (λ n. patterns c.args.rank (initialisation i.sending i.comm i.peer i.tag n) ≡ true) c.total.ensures
    (sym c.has-in-Init.ensures ∙ its))
