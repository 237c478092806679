pub mod Beginnings
pub mod Progress
pub mod Telling
