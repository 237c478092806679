-- What crates above this one name of those below it.
pub use Rattle.cl_stamp_laws.proofs.Joinings.{joined}
pub use Rattle.cl_stamp_laws.proofs.Ranks.{starts}
pub use Rattle.cl_stamp_laws.proofs.Reorders.{absent, merged, no_deeds, reorder}
