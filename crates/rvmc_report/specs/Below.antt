-- What crates above this one name of those below it.
pub use Rattle.cl_debug.specs.Debugging.{Debugging, at_place, with_break}
pub use Rattle.cl_debug.specs.Moves.{MovedBack, MovedOn, RanOn}
pub use Rattle.cl_debug.specs.Shown.{HasNoSymbol, IsOutside, IsSymbolOf, ShowsBytes, ShowsHart, ShowsRank}
pub use Rattle.cl_debug.specs.declared.faults.DebugFault.TheVariants as debug
pub use Rattle.cl_debug.specs.declared.faults.DebugFault.TheVariants.{Memory, NoSymbol}
pub use Rattle.cl_debug.specs.declared.faults.DebugFault.{DebugFault}
pub use Rattle.cl_replay.specs.InnerReplaying.{ReplayFaultHolds}
pub use Rattle.cl_replay.specs.Replaying.{IsReached}
pub use Rattle.cl_replay.specs.Steps.{Leads}
pub use Rattle.cl_replay.specs.declared.states.ClusterState.{ClusterState}
