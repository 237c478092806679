-- What crates above this one name of those below it.
pub use Rattle.cl_replay.proofs.Runs.{holds_further, run_law}
