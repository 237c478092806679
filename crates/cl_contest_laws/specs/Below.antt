-- What crates above this one name of those below it.
pub use Rattle.cl_outcome_laws.specs.Graphs.{AreAlikeNodes}
pub use Rattle.cl_deadlock_laws.specs.Stuck.{IsReachable}
