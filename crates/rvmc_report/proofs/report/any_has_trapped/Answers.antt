use Rattle.std.proofs.Common.{rules, tests}
use Rattle.std.proofs.lemmas.Iterator.{YieldsList-from_slice}
use Rattle.std.proofs.lemmas.Iterator.Search.{any_from_yields_List}
use Rattle.cl_state.specs.declared.state.RankState.{RankState}
use Rattle.rvmc_report.specs.Report.{has_trapped}
use Rattle.rvmc_report.proofs.report.any_has_trapped.Goals as goal

pub returns : goal.returns
returns c =
    any_from_yields_List (λ (state : RankState). has_trapped state.harts.items) _ _ c.any.result c.any.ensures.ran (YieldsList-from_slice c.args.states.now (search rules)) (λ x b q k. search (rules, tests))
