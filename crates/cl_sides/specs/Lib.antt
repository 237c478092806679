pub mod Sides
pub mod Steps
