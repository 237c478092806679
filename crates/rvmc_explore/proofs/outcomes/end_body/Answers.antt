use Rattle.std.proofs.Common.{List, ℕ, subst}
use Rattle.rvmc_explore.specs.Ends.{IsEndText}
use Rattle.rvmc_explore.proofs.outcomes.end_body.Goals as goal

pub returns : goal.returns
returns c = record {
  state = c.in_ok-state.state;
  is = c.in_ok-state.ensures;
  told = subst (λ (old : List ℕ). IsEndText c.args.order.now c.args.image.now c.in_ok-state.state old c.put_end.new.text.items)
      c.new-body.ensures.items c.in_ok-put_end.ensures;
}
