pub mod Why
pub mod Stuck
pub mod Laws
