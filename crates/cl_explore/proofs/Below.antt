-- What crates above this one name of those below it.
pub use Rattle.cl_contest_laws.proofs.Contest.{contest_law}
pub use Rattle.cl_contest_laws.proofs.Starts.{good_law}
pub use Rattle.cl_contest_laws.proofs.Unending.{never_ends_law}
