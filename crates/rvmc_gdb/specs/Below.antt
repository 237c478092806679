-- What crates above this one name of those below it.
pub use Rattle.cl_replay.specs.InnerReplaying.{BreaksAt}
pub use Rattle.cl_replay.specs.Replays.{IsRunUpTo}
pub use Rattle.rvmc_picture.specs.Below.{Fault, IsTextOfWords, StopsAt, TakesAtMost, fault_of_debug, fault_of_record}
pub use Rattle.rvmc_picture.specs.Below.{newline}
pub use Rattle.rvmc_picture.specs.Below.faults
