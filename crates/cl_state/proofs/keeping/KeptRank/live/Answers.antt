use Rattle.std.proofs.Common.{◌∙◌, ap}
use Rattle.cl_state.specs.declared.keeping.KeptBody.{KeptBody}
use Rattle.cl_state.specs.Rank.{Rank}
use Rattle.cl_state.proofs.keeping.KeptRank.live.Goals as goal

pub returns : goal.returns
returns c =
    let kept = c.self.inside in
    let body = c.deref-body.result.now in
    c.at.ensures.rank
    ∙ ap (λ (r : Rank). record r { out = c.in_ok-out.out.items; clock = kept.clock }) c.of-rank.ensures.rank
    ∙ (λ i. record {
      site = c.in_ok-site.ensures.copy i;
      memory = c.in_ok-core.ensures.memory i;
      harts = c.in_ok-core.ensures.harts i;
      requests = c.in_ok-transfers.ensures.requests i;
      phases = c.in_ok-transfers.ensures.phases i;
      out = (c.in_ok-out.ensures.items ∙ c.as_slice.ensures.value) i;
      clock = kept.clock;
    })
    ∙ ap (λ (b : KeptBody). record {
      site = kept.site;
      memory = b.memory;
      harts = b.harts.items;
      requests = b.requests.value;
      phases = b.phases;
      out = b.out.items;
      clock = kept.clock;
    }) c.deref-body.ensures
    ∙ c.self.view_is
