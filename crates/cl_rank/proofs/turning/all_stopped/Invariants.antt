-- None of the harts so far runs.
use Rattle.std.proofs.Common.{◌≡◌, take, true}
use Rattle.std.specs.List.{list_all}
use Rattle.rv_hart.specs.State.{is_stopped}
use Rattle.cl_rank.proofs.turning.all_stopped.Given as goal

abbrev pub invariant-loop-hart : goal.invariant-loop-hart
invariant-loop-hart l = list_all (λ h. is_stopped h.mode) (take l.hart-index l.hart-items) ≡ true
