use Rattle.std.proofs.Common.{rules}
use Rattle.rvmc_explore.proofs.hang_texts.hang_body.Goals as goal

pub returns : goal.returns
returns c = record { state = c.in_ok-state.state; is = c.in_ok-state.ensures; spelled = search rules }
