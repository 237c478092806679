pub mod Needing
pub mod Sets
pub mod Telling
pub mod Sought
pub mod Found
pub mod Held
