pub mod Called
pub mod Unstepped
