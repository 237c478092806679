use Rattle.std.proofs.Common.{◌≡◌, take}
use Rattle.rvmc_inspect.specs.Unreceived.{sent_to}
use Rattle.rvmc_inspect.proofs.unreceived.sent_to.Given as goal

-- those so far
abbrev pub invariant-loop-sent : goal.invariant-loop-sent
invariant-loop-sent l = l.own.items ≡ sent_to l.rank (take l.sent-index l.sends)
