-- What crates above this one name of those below it.
pub use Rattle.cl_replay.specs.Replays.{IsRunUpTo}
pub use Rattle.cl_replay.specs.InnerReplaying.{ReplayFaultHolds}
pub use Rattle.cl_replay.specs.Replaying.{IsReached}
pub use Rattle.cl_replay.specs.declared.replaying.ReplayFault.{ReplayFault}
pub use Rattle.cl_replay.specs.declared.replaying.ReplayFault.TheVariants as replay
pub use Rattle.cl_replay.specs.declared.states.ClusterState.{ClusterState}
