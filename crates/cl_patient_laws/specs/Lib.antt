pub mod Patient
pub mod Laws
