-- What crates above this one name of those below it.
pub use Rattle.cl_machine.specs.Boxes.{box_number}
pub use Rattle.cl_machine.specs.Cluster.{Cluster}
pub use Rattle.cl_deeds.specs.Memory.{LacksPages}
