pub mod Below
pub mod Compared
pub mod Edited
pub mod Kept
pub mod Places
pub mod Stored
pub mod Walked
