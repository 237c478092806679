pub mod Machines
pub mod Laws
