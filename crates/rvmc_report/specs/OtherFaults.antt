-- The faults of records, runs and places, as the program tells them.
use Rattle.std.specs.Prelude.{Option, Some, None}
use Rattle.cl_record.specs.declared.records.RunFault.{RunFault}
use Rattle.cl_record.specs.declared.records.RunFault.TheVariants as run
use Rattle.cl_replay.specs.declared.replaying.ReplayFault.{ReplayFault}
use Rattle.cl_replay.specs.declared.replaying.ReplayFault.TheVariants as replay
use Rattle.cl_text.specs.declared.faults.RecordFault.{RecordFault}
use Rattle.cl_text.specs.declared.faults.RecordFault.TheVariants as recorded
use Rattle.rvmc_report.specs.declared.faults.Fault.{Fault}
use Rattle.rvmc_report.specs.declared.faults.Fault.TheVariants.{Record, Plans, Unlike, Memory, Spawn, Why}
use Rattle.rvmc_report.specs.declared.faults.PlaceFault.{PlaceFault}
use Rattle.rvmc_report.specs.declared.faults.PlaceFault.TheVariants as place

abbrev pub fault_of_record : RecordFault → Fault
fault_of_record recorded.Memory = Memory
fault_of_record fault = Record fault

abbrev pub fault_of_run : RunFault → Fault
fault_of_run run.Plans = Plans
fault_of_run run.Memory = Memory
fault_of_run run.Spawn = Spawn
fault_of_run (run.Unlike rank place) = Unlike rank place

-- what is told of a replay that was refused; nothing where it was for memory
abbrev pub place_of : ReplayFault → Option PlaceFault
place_of (replay.PastEnd steps) = Some (place.PastEnd steps)
place_of (replay.Step number) = Some (place.NotARun number)
place_of replay.Memory = None

-- the fault of a command that asked for the replay
abbrev pub fault_by : (PlaceFault → Fault) → Option PlaceFault → Fault
fault_by tells None = Memory
fault_by tells (Some fault) = tells fault

abbrev pub fault_of_replay : ReplayFault → Fault
fault_of_replay fault = fault_by Why (place_of fault)
