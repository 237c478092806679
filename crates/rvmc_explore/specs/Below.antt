-- What crates above this one name of those below it.
pub use Rattle.cl_explore.specs.Orders.{IsTurnless}
pub use Rattle.cl_order_laws.specs.Closed.{Node}
