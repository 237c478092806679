pub mod Carried
pub mod Codes
pub mod Lists
pub mod Rising
