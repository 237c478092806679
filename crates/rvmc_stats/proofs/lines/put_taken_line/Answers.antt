use Rattle.std.proofs.Common.{append_assoc, rules}
use Rattle.rvmc_stats.proofs.lines.put_taken_line.Goals as goal

-- each piece stands behind those before it
pub returns : goal.returns
returns c = search (rules, append_assoc)
