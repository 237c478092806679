use Rattle.std.proofs.Common.{rules, tests}
use Rattle.std.proofs.lemmas.Iterator.{YieldsList-from_slice}
use Rattle.std.proofs.lemmas.Iterator.Search.{any_from_yields_List}
use Rattle.rv_hart.specs.State.{State}
use Rattle.rvmc_report.specs.Report.{is_trapped}
use Rattle.rvmc_explore.proofs.judging.has_trapped.Goals as goal

pub returns : goal.returns
returns c =
    any_from_yields_List (λ (hart : State). is_trapped hart.mode) _ _ c.any.result c.any.ensures.ran (YieldsList-from_slice c.args.rank.now.harts (search rules)) (λ x b q k. search (rules, tests))
