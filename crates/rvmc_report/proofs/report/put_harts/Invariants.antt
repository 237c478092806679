use Rattle.std.proofs.Common.{◌≡◌, ◌++◌, drop}
use Rattle.rvmc_report.specs.Report.{harts_text}
use Rattle.rvmc_report.proofs.report.put_harts.Given as goal

-- the lines so far, and those of the harts that are left
abbrev pub invariant-loop-number : goal.invariant-loop-number
invariant-loop-number l =
    l.fn.report.items ++ harts_text l.rank 0 l.harts ≡ l.report.items ++ harts_text l.rank l.number (drop l.number l.harts)
