pub mod Reached
pub mod Boxes
pub mod Own
pub mod Others
pub mod Runs
pub mod Unions
pub mod Cases
