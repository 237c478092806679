use Rattle.std.proofs.Common.{◌∙◌, ap}
use Rattle.cl_state.specs.Rank.{Rank}
use Rattle.cl_state.proofs.state.RankState.try_copy.Goals as goal

pub returns-clause-copy : goal.returns-clause-copy
returns-clause-copy c =
    let clock = c.args.self.now.clock in
    c.at.ensures.rank
    ∙ ap (λ (r : Rank). record r { out = c.in_ok-out.out.items; clock = clock }) c.of-copy.ensures.rank
    ∙ (λ i. record {
      site = c.in_ok-site.ensures.copy i;
      memory = c.in_ok-core.ensures.memory i;
      harts = c.in_ok-core.ensures.harts i;
      requests = c.in_ok-transfers.ensures.requests i;
      phases = c.in_ok-transfers.ensures.phases i;
      out = (c.in_ok-out.ensures.items ∙ c.as_slice.ensures.value) i;
      clock = clock;
    })
