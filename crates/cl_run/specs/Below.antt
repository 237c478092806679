-- What crates above this one name of those below it.
pub use Rattle.cl_arrival_laws.specs.Runs.{IsArrivedRun}
