use Rattle.std.proofs.Common.{◌≡◌, take}
use Rattle.rvmc_inspect.specs.Waits.{unready_waits}
use Rattle.rvmc_inspect.proofs.finding.unready_waits.Given as goal

-- those of the posts so far
abbrev pub invariant-loop-post : goal.invariant-loop-post
invariant-loop-post l = l.found.items ≡ unready_waits l.hub l.rank (take l.post-index l.posts)
