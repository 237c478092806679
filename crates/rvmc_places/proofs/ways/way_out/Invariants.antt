use Rattle.std.proofs.Common.{◌≡◌, ◌-◌}
use Rattle.std.specs.Prelude.{None}
use Rattle.rvmc_places.specs.Ways.{way_among, way_out}
use Rattle.rvmc_places.proofs.ways.way_out.Given as goal

-- none of the ways so far leads out
abbrev pub invariant-loop-number : goal.invariant-loop-number
invariant-loop-number l = way_out l.memory l.hart ≡ way_among l.memory l.hart (256 - l.number) None
