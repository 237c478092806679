use Rattle.std.proofs.Common.{◌≡◌, take}
use Rattle.rvmc_inspect.specs.Unreceived.{unreceived}
use Rattle.rvmc_inspect.proofs.unreceived.unreceived.Given as goal

-- those of the posts so far
abbrev pub invariant-loop-place : goal.invariant-loop-place
invariant-loop-place l = l.sends.items ≡ unreceived (take l.place l.hub.board.lines)
