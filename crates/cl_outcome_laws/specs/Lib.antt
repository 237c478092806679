pub mod Companies
pub mod Unending
pub mod Graphs
pub mod Laws
