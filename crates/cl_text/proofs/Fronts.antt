pub mod Same
pub mod Stays
pub mod Agrees
pub mod Ends
pub mod Gots
pub mod Places
pub mod Known
pub mod Cuts
