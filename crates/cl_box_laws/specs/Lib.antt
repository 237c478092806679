pub mod Gates
pub mod Worked
