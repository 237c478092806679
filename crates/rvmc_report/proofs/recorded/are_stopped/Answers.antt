use Rattle.std.proofs.Common.{rules, tests}
use Rattle.std.proofs.lemmas.Iterator.{YieldsList-from_slice}
use Rattle.std.proofs.lemmas.Iterator.Search.{all_from_yields_List}
use Rattle.rv_hart.specs.State.{State, is_stopped}
use Rattle.rvmc_report.proofs.recorded.are_stopped.Goals as goal

pub returns : goal.returns
returns c =
    all_from_yields_List (λ (hart : State). is_stopped hart.mode) _ _ c.all.result c.all.ensures.ran (YieldsList-from_slice c.args.harts.now (search rules)) (λ x b q k. search (rules, tests))
