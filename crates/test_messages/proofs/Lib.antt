pub mod Exact
pub mod Held
pub mod Premises
