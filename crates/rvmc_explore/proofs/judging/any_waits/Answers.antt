use Rattle.std.proofs.Common.{rules, tests, ℕ, slice_get}
use Rattle.std.proofs.lemmas.Iterator.{YieldsList-from_slice}
use Rattle.std.proofs.lemmas.Iterator.Search.{any_from_yields_List}
use Rattle.rvmc_explore.specs.Telling.{holds_of, waits_in}
use Rattle.rvmc_explore.proofs.judging.any_waits.Goals as goal

pub returns : goal.returns
returns c =
    any_from_yields_List (λ (node : ℕ). holds_of (waits_in c.args.order.now) (slice_get c.args.nodes.now node)) _ _ c.any.result c.any.ensures.ran (YieldsList-from_slice c.args.ends.now (search rules)) (λ x b q k. search (rules, tests))
