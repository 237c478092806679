use Rattle.std.proofs.Common.{Some, ap, sym, subst, ◌∙◌}
use Rattle.mp_types.specs.declared.requests.Request.{Request}
use Rattle.cl_rank.specs.Roomy.{IsAgain}
use Rattle.cl_rank.proofs.Anew.{again_stays}
use Rattle.cl_rank.proofs.ranks.Rank.known.Goals as goal

pub returns-in-Ok : goal.returns-in-Ok
returns-in-Ok c =
    let state = c.args.self.now.state in
    again_stays state c.args.hart c.in-Ok.request
    (subst (IsAgain state c.args.hart) (c.in-Some.is ∙ ap (λ (x : Request). Some x) (sym c.in-Ok.ensures.copy)) c.requires)
