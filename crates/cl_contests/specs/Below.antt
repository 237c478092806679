-- What crates above this one name of those below it.
pub use Rattle.cl_reduction_laws.specs.Below.{AreAlike}
pub use Rattle.cl_reduction_laws.specs.Clusters.{IsGood, Search as Contest}
pub use Rattle.cl_reduction_laws.specs.Settled.{IsFit, IsSettled, Settles as SettlesFirst}
pub use Rattle.mp_source_laws.specs.Alike.{AlikeHubs, Wild, is_same}
pub use Rattle.mp_clash_laws.specs.Exchanges.{WaitsWithin}
