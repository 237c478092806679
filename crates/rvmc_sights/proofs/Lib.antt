pub mod Sights
pub mod Hex
pub mod Aheads
pub mod Below
