use Rattle.std.proofs.Common.{sym, subst, ◌∙◌}
use Rattle.std.proofs.lemmas.Bool.{not-true}
use Rattle.cl_reduction_laws.specs.Settled.{IsThere}
use Rattle.cl_moves.proofs.Resting.{hub_in_vain}
use Rattle.cl_contests.proofs.fit.is_there.Goals as goal

pub returns-in-Hub : goal.returns-in-Hub
returns-in-Hub c = λ its image cluster stands.
    subst (IsThere cluster c.args.rank) (sym c.in-Hub.is) (λ none.
    let vain = (hub_in_vain image c.args.state.now cluster stands c.args.rank c.in-Hub.request).1 none in
    let no = sym (not-true c.asks_in_vain.result its) ∙ (c.asks_in_vain.ensures ∙ vain) in cc)
