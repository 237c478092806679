pub mod Putting
pub mod Runs
pub mod Told
pub mod Below
