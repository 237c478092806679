pub mod Lists
pub mod Stepped
pub mod Found
