pub mod Joined
pub mod Plain
pub mod Written
