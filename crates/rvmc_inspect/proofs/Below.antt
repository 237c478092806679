-- What crates above this one name of those below it.
pub use Rattle.rvmc_report.proofs.Below.{run_sized, state_there}
pub use Rattle.rvmc_report.proofs.Digits.{flat_map-range_more, padded_by_zeros}
