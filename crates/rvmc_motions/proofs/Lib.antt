pub mod Histories
pub mod Idle
pub mod Loads
pub mod Passed
pub mod Places
pub mod Steps
pub mod Ways
