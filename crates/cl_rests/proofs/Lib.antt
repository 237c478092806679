pub mod Found
pub mod Among
pub mod Held
pub mod Members
