use Rattle.std.proofs.Common.{rules, tests}
use Rattle.std.proofs.lemmas.Iterator.{YieldsList-from_slice}
use Rattle.std.proofs.lemmas.Iterator.Search.{any_from_yields_List}
use Rattle.cl_state.specs.declared.state.RankState.{RankState}
use Rattle.rvmc_report.specs.Recorded.{stop_by_harts}
use Rattle.rvmc_report.specs.Report.{is_cut_short}
use Rattle.rvmc_report.proofs.recorded.any_is_cut_short.Goals as goal

pub returns : goal.returns
returns c =
    any_from_yields_List (λ (state : RankState). is_cut_short (stop_by_harts state.harts.items)) _ _ c.any.result c.any.ensures.ran (YieldsList-from_slice c.args.states.now (search rules)) (λ x b q k. search (rules, tests))
