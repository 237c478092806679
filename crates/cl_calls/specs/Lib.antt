pub mod Site
pub mod Calls
pub mod Names
pub mod Needs
pub mod Handles
pub mod Checks
