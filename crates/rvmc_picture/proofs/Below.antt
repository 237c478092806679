-- What crates above this one name of those below it.
pub use Rattle.rvmc_sights.proofs.Below.{flat_map-range_more, line_more}
