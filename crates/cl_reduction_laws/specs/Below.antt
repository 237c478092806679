-- What crates above this one name of those below it.
pub use Rattle.cl_first_laws.specs.Below.{AreAlike, AskOfLive, AskWithin, AwaitsOnly, IsSameBy, NamesOnly, as_before}
pub use Rattle.cl_first_laws.specs.Laws.{Turn}
