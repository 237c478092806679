pub mod Stands
pub mod Moves
pub mod Sides
pub mod Acts
pub mod Kept
pub mod Cases
