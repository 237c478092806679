use Rattle.std.proofs.Common.{rules, tests}
use Rattle.std.proofs.lemmas.Iterator.{YieldsList-from_slice}
use Rattle.std.proofs.lemmas.Iterator.Search.{any_from_yields_List}
use Rattle.cl_state.specs.Rank.{Rank}
use Rattle.rvmc_report.specs.Report.{has_trapped}
use Rattle.rvmc_explore.proofs.judging.any_rank_trapped.Goals as goal

pub returns : goal.returns
returns c =
    any_from_yields_List (λ (rank : Rank). has_trapped rank.harts) _ _ c.any.result c.any.ensures.ran (YieldsList-from_slice c.args.ranks.now (search rules)) (λ x b q k. search (rules, tests))
