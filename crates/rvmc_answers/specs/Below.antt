-- What crates above this one name of those below it.
pub use Rattle.rvmc_inspect.specs.Below.{ExploreRefusal, Fault, HasEachRank, IsReportOf, Memory, TakesAtMost}
pub use Rattle.rvmc_inspect.specs.Below.{fault_by, fault_of_debug, fault_of_run, fault_status, listing, place_of}
pub use Rattle.rvmc_inspect.specs.Below.{newline, rank_ends, replay_of, report}
pub use Rattle.rvmc_inspect.specs.Below.{status_of, told_report}
pub use Rattle.rvmc_inspect.specs.Below.drawn
pub use Rattle.rvmc_inspect.specs.Below.explored
pub use Rattle.rvmc_inspect.specs.Below.faults
pub use Rattle.rvmc_inspect.specs.Below.listed
pub use Rattle.rvmc_inspect.specs.Words.{IsTextOfWords}
