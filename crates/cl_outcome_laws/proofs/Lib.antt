pub mod Carried
pub mod Stays
pub mod Companies
pub mod Paths
pub mod CatchUp
pub mod Traps
pub mod Unending
