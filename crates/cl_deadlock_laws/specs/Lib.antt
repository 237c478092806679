pub mod Stuck
pub mod Worked
pub mod Laws
