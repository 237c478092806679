-- What crates above this one name of those below it.
pub use Rattle.rvmc_inspect.proofs.Below.{flat_map-range_more, padded_by_zeros, run_sized}
pub use Rattle.rvmc_inspect.proofs.Lines.{line_more}
