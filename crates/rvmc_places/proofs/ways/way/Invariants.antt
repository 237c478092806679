use Rattle.std.proofs.Common.{◌≡◌, ◌-◌}
use Rattle.rvmc_places.specs.Ways.{leads, way}
use Rattle.rvmc_places.proofs.ways.way.Given as goal

-- where the rest of the way leads
abbrev pub invariant-loop-step : goal.invariant-loop-step
invariant-loop-step l = way l.memory l.hart l.number ≡ leads l.memory (512 - l._step) l.next
