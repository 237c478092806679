pub mod Arrival
pub mod Laws
pub mod AloneRows
pub mod Runs
