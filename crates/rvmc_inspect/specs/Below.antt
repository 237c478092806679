-- What crates above this one name of those below it.
pub use Rattle.cl_deadlock.specs.Why.{IsDeadlockVerdict}
pub use Rattle.rvmc_report.specs.Below.{ClusterState, IsReached, Leads, ReplayFaultHolds}
pub use Rattle.rvmc_report.specs.Faults.{fault_of_debug, fault_of_image, fault_of_kind, fault_of_source, fault_status}
pub use Rattle.rvmc_report.specs.Input.{TakesAtMost}
pub use Rattle.rvmc_report.specs.Listing.{listing}
pub use Rattle.rvmc_report.specs.OtherFaults.{fault_by, fault_of_record, fault_of_run, place_of}
pub use Rattle.rvmc_report.specs.Places.{replay_of}
pub use Rattle.rvmc_report.specs.Recorded.{IsReportOf}
pub use Rattle.rvmc_report.specs.Report.{newline, rank_ends, report, status_of}
pub use Rattle.rvmc_report.specs.Stuck.{told_report}
pub use Rattle.rvmc_report.specs.WholeRecord.{HasEachRank}
pub use Rattle.rvmc_report.specs.declared.faults.DrawRefusal.TheVariants as drawn
pub use Rattle.rvmc_report.specs.declared.faults.ExploreRefusal.TheVariants as explored
pub use Rattle.rvmc_report.specs.declared.faults.ExploreRefusal.{ExploreRefusal}
pub use Rattle.rvmc_report.specs.declared.faults.Fault.TheVariants as faults
pub use Rattle.rvmc_report.specs.declared.faults.Fault.TheVariants.{Memory}
pub use Rattle.rvmc_report.specs.declared.faults.Fault.{Fault}
pub use Rattle.rvmc_report.specs.declared.faults.ListRefusal.TheVariants as listed
