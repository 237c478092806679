-- What crates above this one name of those below it.
pub use Rattle.cl_deadlock_laws.proofs.Reached.{comes_reached, same_site}
