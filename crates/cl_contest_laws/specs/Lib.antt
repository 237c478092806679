pub mod Lists
pub mod Laws
pub mod Below
