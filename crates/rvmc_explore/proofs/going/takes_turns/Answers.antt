use Rattle.std.proofs.Common.{ℕ, ◌==◌, rules, tests}
use Rattle.std.proofs.lemmas.Iterator.{YieldsList-from_slice}
use Rattle.std.proofs.lemmas.Iterator.Search.{any_from_yields_List}
use Rattle.rvmc_explore.proofs.going.takes_turns.Goals as goal

pub returns : goal.returns
returns c =
    any_from_yields_List (λ (hart : ℕ). hart == c.args.number) _ _ c.any.result c.any.ensures.ran (YieldsList-from_slice c.args.order.now (search rules)) (λ x b q k. search (rules, tests))
