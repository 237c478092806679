use Rattle.std.proofs.Common.{◌≡◌, take}
use Rattle.cl_state.specs.Room.{rank_of}
use Rattle.rvmc_motions.specs.Watching.{seen_all}
use Rattle.rvmc_motions.proofs.watching.see_all.Given as goal

-- of the marks so far
abbrev pub invariant-loop-mark : goal.invariant-loop-mark
invariant-loop-mark l = l.seen.items ≡ seen_all (rank_of l.owner) l.rank l.hart (take l.mark-index l.marks)
