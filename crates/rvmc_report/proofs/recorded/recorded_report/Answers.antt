use Rattle.rvmc_report.proofs.recorded.recorded_report.Goals as goal

-- the state that the steps lead to is the one that is told of
pub returns-in-Ok-clause-told : goal.returns-in-Ok-clause-told
returns-in-Ok-clause-told c = record {
  state = c.in_ok-state.state;
  reached = c.in_ok-state.ensures.reached;
  told = c.in-Ok.ensures;
  status_is = c.status_by-status.ensures c.args.steps.now;
}
