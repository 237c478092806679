-- What crates above this one name of those below it.
pub use Rattle.cl_reduction_laws.proofs.Below.{source_law}
