use Rattle.std.proofs.Common.{◌≡◌, ◌++◌, drop}
use Rattle.rvmc_report.specs.Recorded.{reached_ends, reached_from}
use Rattle.rvmc_report.specs.Report.{ranks_text, report}
use Rattle.rvmc_report.proofs.recorded.report_by.Given as goal

-- the text so far, and that of the ranks that are left
abbrev pub invariant-loop-rank : goal.invariant-loop-rank
invariant-loop-rank l =
    report (reached_ends l.steps l.state)
    ≡ l.text.items ++ ranks_text l.rank (reached_from l.steps l.rank (drop l.rank l.state.ranks.items))
