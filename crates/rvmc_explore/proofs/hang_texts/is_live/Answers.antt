use Rattle.std.proofs.Common.{not, rules, tests}
use Rattle.std.proofs.lemmas.Iterator.{YieldsList-from_slice}
use Rattle.std.proofs.lemmas.Iterator.Search.{any_from_yields_List}
use Rattle.rv_hart.specs.State.{State, is_stopped}
use Rattle.rvmc_explore.proofs.hang_texts.is_live.Goals as goal

pub returns : goal.returns
returns c =
    any_from_yields_List (λ (hart : State). not (is_stopped hart.mode)) _ _ c.any.result c.any.ensures.ran (YieldsList-from_slice c.args.own.now.harts.items (search rules)) (λ x b q k. search (rules, tests))
