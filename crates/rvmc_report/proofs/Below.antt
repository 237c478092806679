-- What crates above this one name of those below it.
pub use Rattle.cl_debug.proofs.Ranks.{run_sized}
pub use Rattle.cl_replay.proofs.StatesThere.{state_there}
