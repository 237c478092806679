-- What crates above this one name of those below it.
pub use Rattle.cl_post_laws.proofs.Renamed.{awaits_only, names_only}
pub use Rattle.cl_post_laws.proofs.Sent.{forgets}
pub use Rattle.cl_post_laws.proofs.Asking.{asks as asks_of_named}
pub use Rattle.cl_source_laws.proofs.GoAlike.{go_alike_law, same_reply}
pub use Rattle.cl_source_laws.proofs.Likeness.{likeness_law, likeness_law as source_law}
