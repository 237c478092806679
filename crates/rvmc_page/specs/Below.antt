-- What crates above this one name of those below it.
pub use Rattle.rvmc_picture.specs.Pictures.{DrawFaultHolds, IsDrawing, furthest, view_of}
pub use Rattle.rvmc_picture.specs.declared.pictures.DrawFault.{DrawFault}
pub use Rattle.rvmc_picture.specs.declared.pictures.DrawFault.TheVariants as draw
