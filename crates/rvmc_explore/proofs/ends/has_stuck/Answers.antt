use Rattle.std.proofs.Common.{rules, tests}
use Rattle.std.proofs.lemmas.Iterator.{YieldsList-from_slice}
use Rattle.std.proofs.lemmas.Iterator.Search.{any_from_yields_List}
use Rattle.cl_state.specs.declared.state.RankState.{RankState}
use Rattle.rvmc_explore.specs.Ends.{one_waits}
use Rattle.rvmc_explore.proofs.ends.has_stuck.Goals as goal

pub returns : goal.returns
returns c =
    any_from_yields_List (λ (rank : RankState). one_waits c.args.order.now rank.harts.items) _ _ c.any.result c.any.ensures.ran (YieldsList-from_slice c.args.ranks.now (search rules)) (λ x b q k. search (rules, tests))
