use Rattle.rvmc_list.proofs.BoxCounts.{counted_none}
use Rattle.rvmc_list.proofs.listing.list.Goals as goal

pub put_wanted-requires-clause-counted : goal.put_wanted-requires-clause-counted
put_wanted-requires-clause-counted g c =
    counted_none c.args.image.now c.args.steps.now c.in_ok-state.state c.in_ok-phases.phases c.in_ok-state.ensures.reached
    c.in_ok-phases.ensures.made c.in_ok-phases.ensures.taken
