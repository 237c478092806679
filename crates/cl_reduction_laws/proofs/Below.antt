-- What crates above this one name of those below it.
pub use Rattle.cl_first_laws.proofs.Below.{likeness_law, same_reply, source_law}
pub use Rattle.cl_first_laws.proofs.Exchanges.{call_of}
