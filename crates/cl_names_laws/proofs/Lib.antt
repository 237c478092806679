pub mod Tables
pub mod Asks
pub mod Steps
pub mod Rows
pub mod Told
