use Rattle.std.proofs.Common.{◌≡◌, take}
use Rattle.std.specs.Prelude.{map}
use Rattle.rvmc_changes.specs.Seen.{seen_hart}
use Rattle.rvmc_changes.specs.Walks.{hart_at_start}
use Rattle.rvmc_changes.proofs.starts.harts_start.Given as goal

-- those of the harts before this one
abbrev pub invariant-loop-hart : goal.invariant-loop-hart
invariant-loop-hart l = map hart_at_start l.starts.items ≡ map seen_hart (take l.hart-index l.harts)
