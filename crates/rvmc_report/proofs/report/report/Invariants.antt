use Rattle.std.proofs.Common.{◌≡◌, ◌++◌, drop}
use Rattle.rvmc_report.specs.Report.{ends_of, rank_ends, ranks_text, report}
use Rattle.rvmc_report.proofs.report.report.Given as goal

-- the text so far, and that of the ranks that are left
abbrev pub invariant-loop-rank : goal.invariant-loop-rank
invariant-loop-rank l =
    report (rank_ends l.left)
    ≡ l.text.items ++ ranks_text l.rank (ends_of (drop l.rank l.left.ranks.items) (drop l.rank l.left.traces.items) (drop l.rank l.left.stops.items))
