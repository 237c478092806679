-- Places of a record that aren't there.
use Rattle.cl_replay.specs.declared.replaying.ReplayFault.{ReplayFault}
use Rattle.cl_replay.specs.declared.replaying.ReplayFault.TheVariants as replay
use Rattle.rvmc_report.specs.declared.faults.PlaceFault.{PlaceFault}
use Rattle.rvmc_report.specs.declared.faults.PlaceFault.TheVariants as place

-- of which replay, refused, this is told
abbrev pub replay_of : PlaceFault → ReplayFault
replay_of (place.PastEnd steps) = replay.PastEnd steps
replay_of (place.NotARun number) = replay.Step number
