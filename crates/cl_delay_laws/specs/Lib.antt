pub mod Networks
pub mod Laws
