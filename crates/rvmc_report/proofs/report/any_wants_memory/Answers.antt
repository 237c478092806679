use Rattle.std.proofs.Common.{rules, tests}
use Rattle.std.proofs.lemmas.Iterator.{YieldsList-from_slice}
use Rattle.std.proofs.lemmas.Iterator.Search.{any_from_yields_List}
use Rattle.std.specs.Prelude.{Some}
use Rattle.cl_rank.specs.declared.stops.Stop.{Stop}
use Rattle.rvmc_report.specs.Report.{wants_memory}
use Rattle.rvmc_report.proofs.report.any_wants_memory.Goals as goal

pub returns : goal.returns
returns c = any_from_yields_List (λ (stop : Stop). wants_memory (Some stop)) _ _ c.any.result c.any.ensures.ran (YieldsList-from_slice c.args.stops.now (search rules)) (λ x b q k. search (rules, tests))
