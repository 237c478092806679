pub mod Quiet
pub mod Told
