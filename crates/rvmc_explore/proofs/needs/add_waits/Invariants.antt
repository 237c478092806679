use Rattle.std.proofs.Common.{◌≡◌, ◌++◌, take}
use Rattle.std.specs.List.{flat_map}
use Rattle.cl_state.specs.Room.{rank_of}
use Rattle.rvmc_explore.specs.Needs.{send_wait}
use Rattle.rvmc_explore.proofs.needs.add_waits.Given as goal

-- those so far
abbrev pub invariant-loop-handle : goal.invariant-loop-handle
invariant-loop-handle l =
    l.found.items
    ≡ l.fn.found.items ++ flat_map (send_wait l.hub (rank_of l.own)) (take l.handle-index l.handles)
