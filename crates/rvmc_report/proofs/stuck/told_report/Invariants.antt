use Rattle.std.proofs.Common.{◌≡◌, ◌++◌, drop}
use Rattle.rvmc_report.specs.Report.{ends_of, rank_ends}
use Rattle.rvmc_report.specs.Stuck.{told_ranks, told_report}
use Rattle.rvmc_report.proofs.stuck.told_report.Given as goal

-- the text so far, and that of the ranks that are left
abbrev pub invariant-loop-rank : goal.invariant-loop-rank
invariant-loop-rank l =
    told_report l.word l.budget (rank_ends l.left)
    ≡ l.text.items
    ++ told_ranks l.word l.budget l.rank
    (ends_of (drop l.rank l.left.ranks.items) (drop l.rank l.left.traces.items) (drop l.rank l.left.stops.items))
