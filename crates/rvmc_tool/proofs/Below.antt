-- What crates above this one name of those below it.
pub use Rattle.rvmc_runs.proofs.Reading.{ok≢err}
