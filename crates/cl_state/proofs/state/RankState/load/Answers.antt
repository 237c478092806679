use Rattle.std.proofs.Common.{◌∙◌, [], ap}
use Rattle.cl_state.specs.Rank.{loaded}
use Rattle.cl_state.proofs.state.RankState.load.Goals as goal

pub returns-clause-loaded : goal.returns-clause-loaded
returns-clause-loaded c =
    c.of.ensures.rank
    ∙ (λ i. record {
      site = c.in_ok-site.ensures i;
      memory = c.in_ok-core.ensures.memory i;
      harts = c.in_ok-core.ensures.harts i;
      requests = c.in_ok-transfers.ensures.requests i;
      phases = c.in_ok-transfers.ensures.phases i;
      out = [];
      clock = 0;
    })
    ∙ ap (λ image. loaded image c.args.rank) c.parts-parts.ensures.parts
