pub mod Left
pub mod Lists
pub mod Pages
pub mod Readings
