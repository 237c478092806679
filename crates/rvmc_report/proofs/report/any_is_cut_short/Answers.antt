use Rattle.std.proofs.Common.{rules, tests}
use Rattle.std.proofs.lemmas.Iterator.{YieldsList-from_slice}
use Rattle.std.proofs.lemmas.Iterator.Search.{any_from_yields_List}
use Rattle.std.specs.Prelude.{Some}
use Rattle.cl_rank.specs.declared.stops.Stop.{Stop}
use Rattle.rvmc_report.specs.Report.{is_cut_short}
use Rattle.rvmc_report.proofs.report.any_is_cut_short.Goals as goal

pub returns : goal.returns
returns c = any_from_yields_List (λ (stop : Stop). is_cut_short (Some stop)) _ _ c.any.result c.any.ensures.ran (YieldsList-from_slice c.args.stops.now (search rules)) (λ x b q k. search (rules, tests))
