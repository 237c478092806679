-- What crates above this one name of those below it.
pub use Rattle.cl_post_laws.specs.Laws.{AsksOnly, IsNamed, NamesBelow, TellsOnly}
pub use Rattle.cl_post_laws.specs.Names.{AwaitsOnly, IsSameBy, Keeps, NamesOnly, as_before}
pub use Rattle.cl_source_laws.specs.Alike.{AreAlike, AskWithin}
pub use Rattle.cl_source_laws.specs.Laws.{AskOfLive}
