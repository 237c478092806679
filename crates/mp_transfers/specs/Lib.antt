pub mod Inits
pub mod Laws
