use Rattle.std.proofs.Common.{◌≡◌, true, sym, subst}
use Rattle.cl_reduction_laws.specs.Patterns.{IsAllowed, initialisation, pattern_of_request}
use Rattle.cl_contests.specs.Kept.{patterns_of}
use Rattle.cl_contests.proofs.Passing.{poll_kept}
use Rattle.cl_contests.proofs.patterns.Patterns.add_request.Goals as goal

pub returns-in_ok-keep-in-Send-clause-allowed : goal.returns-in_ok-keep-in-Send-clause-allowed
returns-in_ok-keep-in-Send-clause-allowed c = λ its.
    subst (λ q. IsAllowed (patterns_of c.keep.new.self.kept.items) c.args.rank (pattern_of_request c.args.waits q))
    (sym c.in-Send.is) c.in_ok-keep-in-Send.ensures.has

pub returns-in_ok-add_source-in-Probe-clause-allowed :
    goal.returns-in_ok-add_source-in-Probe-clause-allowed
returns-in_ok-add_source-in-Probe-clause-allowed c = λ its.
    let new = c.add_source-in-Probe.new.self.kept.items in
    subst (λ q. IsAllowed (patterns_of new) c.args.rank (pattern_of_request c.args.waits q)) (sym c.in-Probe.is)
    (poll_kept c.add_poll.new.self.kept.items new c.in_ok-add_source-in-Probe.ensures.keeps c.args.rank c.args.waits
    c.in_ok-add_poll-in-Probe.ensures.allowed)

pub returns-in_ok-keep-in-Init-clause-allowed : goal.returns-in_ok-keep-in-Init-clause-allowed
returns-in_ok-keep-in-Init-clause-allowed c = λ its.
    let new = patterns_of c.keep-in-Init.new.self.kept.items in
    let i = c.in-Init in
    subst (λ q. IsAllowed new c.args.rank (pattern_of_request c.args.waits q)) (sym i.is)
    (subst (λ n. new c.args.rank (initialisation i.sending i.comm i.peer i.tag n) ≡ true) c.total.ensures
    c.in_ok-keep-in-Init.ensures.has)
