pub mod Same
pub mod Above
