pub mod Spelled
pub mod Places
pub mod Faults
pub mod Partitioned
pub mod Turns
