pub mod Renaming
pub mod Alike
pub mod Laws
pub mod Rows
